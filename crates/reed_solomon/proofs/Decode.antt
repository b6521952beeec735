-- What the syndromes say of a codeword in reach: the shortest register that makes them locates its errors. Assumes nothing.
use Rattle.general.proofs.Names.{◌≡◌, sym, ap, ◌∙◌, subst, ◌≢◌, List, ℕ, suc, ◌+◌, ◌-◌, ◌%◌, ◌≤◌, ◌<◌, arith, T, length, xor_zero_r}
use Rattle.field.specs.Field.{power, mul}
use Rattle.field.proofs.Field.{Primitive, mul_comm, sum_lt}
use Rattle.reed_solomon.specs.Sum.{◌⊕◌, seq, degree, locator, syndrome}
use Rattle.reed_solomon.specs.Register.{Generates}
use Rattle.reed_solomon.proofs.Sum.{Null, add_zero_eq}
use Rattle.reed_solomon.proofs.Peel.{Out, null_mul, null_div, only_zero}
use Rattle.reed_solomon.proofs.Register.{discrepancy_ext}
use Rattle.reed_solomon.proofs.Horner.{horner_lt, discrepancy_value, few_zeros}
use Rattle.reed_solomon.proofs.LocatorLaws.{product, product_first, product_makes}
use Rattle.reed_solomon.specs.Block.{eval, is_codeword, distance}
use Rattle.reed_solomon.specs.Places.{locator_at}
use Rattle.reed_solomon.specs.Inner.{Syndromes, Shortest, Locates}
use Rattle.reed_solomon.proofs.Search.{Bytes}
use Rattle.reed_solomon.proofs.Distance.{places, places_length, differ_zeros}
use Rattle.reed_solomon.proofs.Codeword.{codeword_zero, difference, difference_null, difference_syndrome}
use Rattle.reed_solomon.proofs.Nearest.{Near}

module _ (poly : ℕ) (P : Primitive poly) (first parity : ℕ) (w : List ℕ) (small : length w ≤ 255) (bw : Bytes w)
    (s : List ℕ) (Y : Syndromes poly first parity w s) where
  abbrev ◌⊗◌ : ℕ → ℕ → ℕ
  ◌⊗◌ = mul poly

  infixl 70 ◌⊗◌
  -- a block's syndromes are those of its errors
  pub of_errors : (c : List ℕ) → length c ≡ length w → Bytes c → T (is_codeword poly first parity c) → (j : ℕ) → j < parity
      → seq s j ≡ syndrome poly first (length w) (difference w c) j
  of_errors c e bc code j h =
      Y.are j h ∙ sym (xor_zero_r (eval poly (power poly (first + j)) w))
      ∙ ap (λ (x : ℕ). eval poly (power poly (first + j)) w ⊕ x) (sym (codeword_zero poly first parity c code j h))
      ∙ sym (difference_syndrome poly P first w c j (sym e) bw bc)

  module _ (f : List ℕ) (l : ℕ) (F : Shortest poly s parity f l) where
    -- the locator at a place
    abbrev R : ℕ → ℕ
    R k = locator_at poly f l (degree (length w) k)

    -- a block that differs only at roots differs in at most l places
    pub few : (v : List ℕ) → ((k : ℕ) → k < length w → seq w k ≢ seq v k → R k ≡ 0) → distance w v ≤ l
    few v z =
        omega (
          arith,
          differ_zeros (locator_at poly f l) w v z,
          few_zeros poly P (length w) l (seq f) (locator_at poly f l) small (λ y. omega (arith, F.unit)) (λ d h e. ap (λ (x : ℕ). x % 256) e),
        )

    module _ (c : List ℕ) (N : Near poly first parity w c) where
      abbrev ks : List ℕ
      ks = places 0 w c

      abbrev err : ℕ → ℕ
      err = difference w c

      abbrev S : ℕ → ℕ
      S = syndrome poly first (length w) err

      err_lt : (i : ℕ) → err i < 256
      err_lt i = sum_lt (seq w i) (seq c i) (bw i) (N.bytes i)

      err_null : (i : ℕ) → i < length w → Out i ks → Null (err i)
      err_null i h o = difference_null w c i (sym N.size) o

      of : (j : ℕ) → j < parity → seq s j ≡ S j
      of = of_errors c N.size N.bytes N.code

      -- the locator is no longer than there are errors
      pub l_le : l ≤ distance w c
      unfolding Generates
      l_le =
          subst (λ (x : ℕ). l ≤ x) (places_length 0 w c)
          (F.least (product poly (length w) ks) (length ks)
          (λ x a b. discrepancy_ext poly (seq s) S (product poly (length w) ks) (length ks) x (λ j u. of j (omega arith))
          ∙ product_makes poly P first (length w) ks err err_null x a)
          (λ z. omega (arith, product_first poly (length w) ks)))

      -- and is zero at each error
      null_at : (k : ℕ) → k < length w → Null (err k ⊗ R k)
      unfolding Generates
      null_at =
          only_zero poly P first (length w) small ks 0 (length ks) (λ i. err i ⊗ R i) (omega arith)
          (λ i h o. ap (λ (x : ℕ). x % 256) (null_mul poly P (err i) (R i) (err_null i h o)))
          (λ j lo hi.
          (let e : j ≡ l + j - l = omega arith in ap (syndrome poly first (length w) (λ i. err i ⊗ R i)) e)
          ∙ sym (discrepancy_value poly P first (length w) err (seq f) l (l + j) (omega arith))
          ∙ sym (discrepancy_ext poly (seq s) S (seq f) l (l + j) (λ i u. of i (omega (arith, places_length 0 w c, l_le, N.near))))
          ∙ F.makes (l + j) (omega arith) (omega (arith, places_length 0 w c, l_le, N.near)))

      pub root_at : (k : ℕ) → k < length w → err k ≢ 0 → R k ≡ 0
      root_at k h d =
          omega (
            arith,
            horner_lt poly P (seq f) (locator poly (length w) k) (suc l) F.bytes,
            null_div poly P (R k) (err k) (ap (λ (x : ℕ). x % 256) (mul_comm poly P (R k) (err k)) ∙ null_at k h) (λ z. d (omega (arith, err_lt k))),
          )

      pub locates : Locates poly first parity (length w) err s f l
      locates = record {
        of = of;
        err_lt = err_lt;
        unit = F.unit;
        bytes = F.bytes;
        within = F.within;
        root = root_at;
        many = omega (arith, l_le, differ_zeros (locator_at poly f l) w c (λ k h d. root_at k h (λ z. d (add_zero_eq (seq w k) (seq c k) z))));
      }
