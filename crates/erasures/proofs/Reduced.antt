-- A block with each place multiplied by the value there of g, whose roots are the erased places. Where the block is a codeword, this is one
-- of the parity less the erased places; the modified syndromes are its syndromes; and it is no further from another than the unerased places
-- are. Assumes nothing.
use Rattle.general.proofs.Names.{◌≡◌, sym, ap, ◌∙◌, ◌≢◌, List, ℕ, suc, ◌+◌, ◌-◌, ◌≤◌, ◌<◌, arith, ℕ_discrete, dec_lt, T, eq-eqb, length}
use Rattle.general.proofs.Names.{get_or-eq_default}
use Rattle.general.specs.Each.{table}
use Rattle.general.proofs.Lists.{length_table, get_or_table}
use Rattle.field.specs.Field.{power, mul}
use Rattle.field.proofs.Field.{Primitive, mul_lt}
use Rattle.field.proofs.Entries.{mul_right_zero}
use Rattle.reed_solomon.specs.Sum.{seq, locator, syndrome}
use Rattle.reed_solomon.specs.Register.{discrepancy}
use Rattle.reed_solomon.specs.Block.{eval, is_codeword, distance}
use Rattle.reed_solomon.specs.Erased.{unerased, unerased_distance}
use Rattle.reed_solomon.specs.Inner.{Syndromes}
use Rattle.reed_solomon.proofs.Sum.{Null, sum_zero}
use Rattle.reed_solomon.proofs.Peel.{syndrome_ext}
use Rattle.reed_solomon.proofs.Register.{discrepancy_ext}
use Rattle.reed_solomon.proofs.Horner.{horner_one, discrepancy_value}
use Rattle.reed_solomon.proofs.Search.{Bytes}
use Rattle.reed_solomon.proofs.Distance.{distance_mono}
use Rattle.reed_solomon.proofs.Codeword.{codeword_zero, zero_codeword, eval_syndrome}
use Rattle.reed_solomon.proofs.Locates.{cancel_mul}
use Rattle.reed_solomon.proofs.Erased.{unerased_length, unerased_at}
use Rattle.erasures.specs.Inner.{value_at, Rooted, Modified}

module _ (poly : ℕ) (P : Primitive poly) (first : ℕ) (flags one g : List ℕ) (f : ℕ) (u : seq one 0 ≡ 1)
    (G : Rooted poly (length flags) flags (length flags) 0 one f g) where
  abbrev n : ℕ
  n = length flags

  abbrev val : ℕ → ℕ
  val = value_at poly n g f

  pub reduced_of : List ℕ → List ℕ
  reduced_of c = table n (λ i. mul poly (seq c i) (val i))

  pub reduced_length : (c : List ℕ) → length (reduced_of c) ≡ n
  unfolding reduced_of
  reduced_length c = length_table n (λ i. mul poly (seq c i) (val i))

  reduced_at : (c : List ℕ) (i : ℕ) → i < n → seq (reduced_of c) i ≡ mul poly (seq c i) (val i)
  unfolding reduced_of
  reduced_at c i h = get_or_table n (λ i. mul poly (seq c i) (val i)) i h

  -- g is zero at the erased places alone
  alive : (i : ℕ) → i < n → seq flags i ≡ 0 → ¬ Null (val i)
  alive i h e z = omega (arith, G.back i h e z, horner_one poly P (seq one) (locator poly n i))

  pub reduced_bytes : (c : List ℕ) → Bytes (reduced_of c)
  reduced_bytes c i = elim (dec_lt i n) [
    | yes h ↦ omega (arith, reduced_at c i h, mul_lt poly P (seq c i) (val i))
    | no h ↦ omega (arith, get_or-eq_default (reduced_of c) 0 {n = i} (omega (arith, reduced_length c)))
  ]

  -- its syndromes from those of the block
  reduced_eval : (parity : ℕ) (c : List ℕ) (z : ℕ → ℕ) → length c ≡ n → Bytes c → ((j : ℕ) → j < parity → z j ≡ eval poly (power poly (first + j)) c)
      → (j : ℕ) → f + j < parity → eval poly (power poly (first + j)) (reduced_of c) ≡ discrepancy poly z (seq g) f (f + j)
  reduced_eval parity c z e b s j h =
      eval_syndrome poly P first (reduced_of c) j (reduced_bytes c)
      ∙ ap (λ (m : ℕ). syndrome poly first m (seq (reduced_of c)) j) (reduced_length c)
      ∙ syndrome_ext poly P first n (seq (reduced_of c)) (λ i. mul poly (seq c i) (val i)) j (reduced_at c)
      ∙ (let q : j ≡ f + j - f = omega arith in ap (syndrome poly first n (λ i. mul poly (seq c i) (val i))) q)
      ∙ sym (discrepancy_value poly P first n (seq c) (seq g) f (f + j) (omega arith))
      ∙ sym (discrepancy_ext poly z (syndrome poly first n (seq c)) (seq g) f (f + j)
      (λ i o. s i (omega arith) ∙ eval_syndrome poly P first c i b ∙ ap (λ (m : ℕ). syndrome poly first m (seq c) i) e))

  pub reduced_syndromes : (parity : ℕ) (w s t : List ℕ) → length w ≡ n → Bytes w → Syndromes poly first parity w s → Modified poly s g f (parity - f) t
      → Syndromes poly first (parity - f) (reduced_of w) t
  reduced_syndromes parity w s t e b Y M = record {
    size = M.size;
    bytes = M.bytes;
    are = λ j h. M.are j h ∙ sym (reduced_eval parity w (seq s) e b Y.are j (omega arith));
  }

  pub reduced_code : (parity : ℕ) (c : List ℕ) → length c ≡ n → Bytes c → T (is_codeword poly first parity c)
      → T (is_codeword poly first (parity - f) (reduced_of c))
  unfolding discrepancy
  reduced_code parity c e b t =
      zero_codeword poly first (parity - f) (reduced_of c) (λ j h.
      reduced_eval parity c (λ i. 0) e b (λ i o. sym (codeword_zero poly first parity c t i o)) j (omega arith)
      ∙ sum_zero (λ i. mul poly (seq g i) 0) (suc f) (λ i o. mul_right_zero poly (seq g i)))

  module _ (w c : List ℕ) where
    -- where a place is erased, or two blocks agree, the reduced blocks agree
    pub erased_same : (i : ℕ) → i < n → seq flags i ≢ 0 → seq (reduced_of w) i ≡ seq (reduced_of c) i
    erased_same i h d =
        let z = G.erased i h d in
        reduced_at w i h ∙ ap (mul poly (seq w i)) z ∙ mul_right_zero poly (seq w i)
        ∙ sym (reduced_at c i h ∙ ap (mul poly (seq c i)) z ∙ mul_right_zero poly (seq c i))

    reduced_same : (i : ℕ) → i < n → seq w i ≡ seq c i → seq (reduced_of w) i ≡ seq (reduced_of c) i
    reduced_same i h e = reduced_at w i h ∙ ap (λ (x : ℕ). mul poly x (val i)) e ∙ sym (reduced_at c i h)

    -- and at an unerased place only there
    pub reduced_back : (i : ℕ) → i < n → seq flags i ≡ 0 → seq w i < 256 → seq c i < 256 → seq (reduced_of w) i ≡ seq (reduced_of c) i → seq w i ≡ seq c i
    reduced_back i h e hw hc q =
        cancel_mul poly P (seq w i) (seq c i) (val i) hw hc (alive i h e) (sym (reduced_at w i h) ∙ q ∙ reduced_at c i h)

    pub distance_reduced : length w ≡ n → length c ≡ n → distance (reduced_of w) (reduced_of c) ≤ unerased_distance flags w c
    unfolding unerased_distance
    distance_reduced ew ec =
        let kw = unerased_length flags w (sym ew) in
        let kc = unerased_length flags c (sym ec) in
        distance_mono (unerased flags w) (unerased flags c) (reduced_of w) (reduced_of c) (kw ∙ ew ∙ sym (kc ∙ ec)) (kw ∙ ew ∙ sym (reduced_length w))
        (kw ∙ ew ∙ sym (reduced_length c))
        (λ i h q. elim (ℕ_discrete (seq flags i) 0) [
          | no d ↦ erased_same i (omega arith) d
          | yes e ↦ reduced_same i (omega arith)
              (sym (unerased_at flags w i (sym ew) ∙ simp (eq-eqb (seq flags i) 0 e)) ∙ q ∙ unerased_at flags c i (sym ec) ∙ simp (eq-eqb (seq flags i) 0 e))
        ])
