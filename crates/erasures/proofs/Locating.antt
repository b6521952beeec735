-- The locator of a block with its erased places taken out, with these places as further roots, locates the errors of the block itself. Assumes
-- nothing.
use Rattle.general.proofs.Names.{◌≡◌, sym, ap, ◌∙◌, subst, ◌≢◌, List, ℕ, suc, ◌+◌, ◌-◌, ◌*◌, ◌%◌, ◌≤◌, ◌<◌, arith, ℕ_discrete, T, eq-eqb, ne_eqb, length}
use Rattle.general.proofs.Names.{xor_self}
use Rattle.field.proofs.Field.{Primitive, sum_lt}
use Rattle.reed_solomon.specs.Sum.{◌⊕◌, seq, degree, locator, syndrome}
use Rattle.reed_solomon.specs.Block.{is_codeword, distance}
use Rattle.reed_solomon.specs.Erased.{unerased, unerased_distance}
use Rattle.reed_solomon.specs.Places.{locator_at}
use Rattle.reed_solomon.specs.Inner.{Syndromes, zeros_of, Locates}
use Rattle.reed_solomon.proofs.Sum.{add_zero_eq}
use Rattle.reed_solomon.proofs.Horner.{horner_lt, few_zeros}
use Rattle.reed_solomon.proofs.Search.{Bytes}
use Rattle.reed_solomon.proofs.Distance.{differ_zeros}
use Rattle.reed_solomon.proofs.Codeword.{difference}
use Rattle.reed_solomon.proofs.Nearest.{Near}
use Rattle.reed_solomon.proofs.Erased.{erasures_zeros, unerased_length, unerased_at, erased_zeros}
use Rattle.reed_solomon.proofs.Decode.{of_errors, root_at}
use Rattle.reed_solomon.proofs.Decode as Decode
use Rattle.erasures.specs.Inner.{value_at, Rooted, Reduction}
use Rattle.erasures.proofs.Reduced as Reduced

module _ (poly : ℕ) (P : Primitive poly) (first parity : ℕ) (flags w : List ℕ) (size : length flags ≡ length w) (small : length w ≤ 255) (bw : Bytes w)
    (s : List ℕ) (Y : Syndromes poly first parity w s) (f : ℕ) (fit : f ≤ parity) (p : List ℕ) (l : ℕ) (A : Reduction poly parity flags s f p l) where
  abbrev n : ℕ
  n = length flags

  abbrev red : List ℕ → List ℕ
  red = Reduced.reduced_of poly P first flags A.one A.g f A.unit A.rooted

  red_length : (c : List ℕ) → length (red c) ≡ n
  red_length = Reduced.reduced_length poly P first flags A.one A.g f A.unit A.rooted

  red_bytes : (c : List ℕ) → Bytes (red c)
  red_bytes = Reduced.reduced_bytes poly P first flags A.one A.g f A.unit A.rooted

  red_small : length (red w) ≤ 255
  red_small = omega (arith, red_length w)

  red_syndromes : Syndromes poly first (parity - f) (red w) A.t
  red_syndromes = Reduced.reduced_syndromes poly P first flags A.one A.g f A.unit A.rooted parity w s A.t (sym size) bw Y A.modified

  -- the locator of the reduced block at a place
  abbrev Q : ℕ → ℕ
  Q k = value_at poly n p l k

  -- a codeword that is near enough at the unerased places
  module _ (c : List ℕ) (ec : length c ≡ length w) (bc : Bytes c) (code : T (is_codeword poly first parity c))
      (near : 2 * unerased_distance flags w c + f ≤ parity) where
    le : distance (red w) (red c) ≤ unerased_distance flags w c
    le = Reduced.distance_reduced poly P first flags A.one A.g f A.unit A.rooted w c (sym size) (ec ∙ sym size)

    N : Near poly first (parity - f) (red w) (red c)
    N = record {
      size = red_length c ∙ sym (red_length w);
      bytes = red_bytes c;
      code = Reduced.reduced_code poly P first flags A.one A.g f A.unit A.rooted parity c (ec ∙ sym size) bc code;
      near = omega (arith, le);
    }

    red_le : l ≤ distance (red w) (red c)
    red_le = Decode.l_le poly P first (parity - f) (red w) red_small (red_bytes w) A.t red_syndromes p l A.shortest (red c) N

    pub l_le : l ≤ unerased_distance flags w c
    l_le = omega (arith, red_le, le)

    red_root : (k : ℕ) → k < n → seq (red w) k ≢ seq (red c) k → Q k ≡ 0
    red_root k o d =
        subst (λ (m : ℕ). locator_at poly p l (degree m k) ≡ 0) (red_length w)
        (root_at poly P first (parity - f) (red w) red_small (red_bytes w) A.t red_syndromes p l A.shortest (red c) N k
        (omega (arith, red_length w)) (λ z. d (add_zero_eq (seq (red w) k) (seq (red c) k) z)))

  -- with the erased places as roots
  module _ (h : List ℕ) (L : ℕ) (H : Rooted poly n flags n l p L h) where
    abbrev R : ℕ → ℕ
    R k = value_at poly n h L k

    -- a block that differs only at its zeros differs in at most l unerased places
    pub few_unerased : (v : List ℕ) → length v ≡ length w → ((k : ℕ) → k < length w → seq w k ≢ seq v k → locator_at poly h L (degree (length w) k) ≡ 0)
        → unerased_distance flags w v ≤ l
    unfolding unerased_distance
    few_unerased v ev z =
        let kw = unerased_length flags w size in
        omega (
          arith,
          differ_zeros (locator_at poly p l) (unerased flags w) (unerased flags v)
              (λ k o d. subst (λ (m : ℕ). locator_at poly p l (degree m k) ≡ 0) (size ∙ sym kw) (at k (omega arith) d)),
          few_zeros poly P (length (unerased flags w)) l (seq p) (locator_at poly p l) (omega arith) (λ y. omega (arith, A.shortest.unit))
              (λ d o e. omega (arith, e)),
        )
      where
        at : (k : ℕ) → k < n → seq (unerased flags w) k ≢ seq (unerased flags v) k → Q k ≡ 0
        at k o d = elim (ℕ_discrete (seq flags k) 0) [
          | no e ↦ absurd (d (unerased_at flags w k size ∙ simp (ne_eqb (seq flags k) 0 e)
              (sym (unerased_at flags v k (size ∙ sym ev) ∙ simp (ne_eqb (seq flags k) 0 e)))))
          | yes e ↦
              let there : R k ≡ 0 = subst (λ (m : ℕ). locator_at poly h L (degree m k) ≡ 0) (sym size) (z k (omega arith) (λ q.
              d (unerased_at flags w k size ∙ simp (eq-eqb (seq flags k) 0 e) (q ∙ sym (unerased_at flags v k (size ∙ sym ev) ∙ simp (eq-eqb (seq flags k) 0 e)))))) in
              omega (
                arith,
                horner_lt poly P (seq p) (locator poly n k) (suc l) A.shortest.bytes,
                H.back k o e (ap (λ (x : ℕ). x % 256) there),
              )
        ]

    module _ (c : List ℕ) (ec : length c ≡ length w) (bc : Bytes c) (code : T (is_codeword poly first parity c))
        (near : 2 * unerased_distance flags w c + f ≤ parity) where
      -- a place is erased, or the locator of the reduced block is zero there
      root : (k : ℕ) → k < n → difference w c k ≢ 0 → R k ≡ 0
      root k o d = elim (ℕ_discrete (seq flags k) 0) [
        | no e ↦ H.erased k o e
        | yes e ↦ H.zero k (red_root c ec bc code near k o (λ q.
            let same : seq w k ≡ seq c k =
            Reduced.reduced_back poly P first flags A.one A.g f A.unit A.rooted w c k o e (bw k) (bc k) q in
            d (ap (λ (x : ℕ). x ⊕ seq c k) same ∙ xor_self (seq c k))))
      ]

      many : L ≤ zeros_of n (locator_at poly h L)
      many =
          let e = red_length w in
          omega (
            arith,
            H.count,
            A.rooted.count,
            erasures_zeros flags,
            red_le c ec bc code near,
            ap (λ (m : ℕ). zeros_of m (locator_at poly h L)) e,
            erased_zeros (locator_at poly h L) flags (red w) (red c) (sym e) (e ∙ sym (red_length c))
                (λ k o d. (
                  subst (λ (m : ℕ). locator_at poly h L (degree m k) ≡ 0) (sym e) (H.erased k (omega arith) d),
                  Reduced.erased_same poly P first flags A.one A.g f A.unit A.rooted w c k (omega arith) d,
                ))
                (λ k o d. subst (λ (m : ℕ). locator_at poly h L (degree m k) ≡ 0) (sym e) (H.zero k (red_root c ec bc code near k (omega arith) d))),
          )

      pub locates : Locates poly first parity (length w) (difference w c) s h L
      locates =
          subst (λ (m : ℕ). Locates poly first parity m (difference w c) s h L) size (record {
            of = λ j o. of_errors poly P first parity w small bw s Y c ec bc code j o ∙ ap (λ (m : ℕ). syndrome poly first m (difference w c) j) (sym size);
            err_lt = λ i. sum_lt (seq w i) (seq c i) (bw i) (bc i);
            unit = H.unit;
            bytes = H.bytes;
            within = omega (arith, H.count, A.rooted.count, A.shortest.within);
            root = root;
            many = many;
          })
