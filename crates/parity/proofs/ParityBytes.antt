-- Data followed by bytes that make them a codeword: no other bytes do, the rest of the division does, and so it is the parity. Assumes
-- nothing.
use Rattle.general.proofs.Names.{◌≡◌, refl, sym, ap, ap₂, ◌∙◌, fun_ext, Bool, true, false, cond, some, List, [], ◌∷◌, ◌++◌, ℕ, zero, suc, ◌+◌, ◌-◌}
use Rattle.general.proofs.Names.{◌≤◌, ◌<◌, arith, dec_lt, eq-eqb, eqb, length, take, drop, replicate, length-append, length-drop, take-append-drop}
use Rattle.general.proofs.Names.{get_or-append, get_or-eq_default, ext_get_or, get_or-append-add, drop-append_seam, length-take-le, get_or-take, get_or-drop}
use Rattle.field.specs.Field.{power}
use Rattle.field.proofs.Field.{Primitive}
use Rattle.reed_solomon.specs.Sum.{seq, horner}
use Rattle.reed_solomon.specs.Register.{stepped}
use Rattle.reed_solomon.specs.Block.{distance, is_codeword, parity_of}
use Rattle.general.specs.Each.{Each, table}
use Rattle.reed_solomon.proofs.Search.{Bytes, Passing, passing_some}
use Rattle.reed_solomon.proofs.Codeword.{eval_horner, zero_codeword, near_equal}
use Rattle.reed_solomon.proofs.Massey.{zeros}
use Rattle.parity.specs.Encode.{written_of}
use Rattle.parity.specs.Inner.{Monic, Generator, Divided, copied_from}
use Rattle.parity.proofs.Remainder.{generator_start, generator_next, divided_start, divided_next, joined_root, copied_low, copied_high}
use Rattle.general.proofs.Lists.{length_table, get_or_table}

-- ---- what follows the same data

distance_behind : (ds p q : List ℕ) → distance (ds ++ p) (ds ++ q) ≡ distance p q
unfolding distance
distance_behind [] p q = refl
distance_behind (x ∷ ds) p q = same x (distance (ds ++ p) (ds ++ q)) ∙ distance_behind ds p q
  where
    same : (x n : ℕ) → cond (eqb x x) n (suc n) ≡ n
    same x n = simp (eq-eqb x x refl)

one_more_le : (t : Bool) (a b : ℕ) → a ≤ b → cond t a (suc a) ≤ suc b
one_more_le true a b h = omega arith
one_more_le false a b h = omega arith

pub distance_le : (p q : List ℕ) → distance p q ≤ length p
unfolding distance
distance_le [] q = omega arith
distance_le (x ∷ p) [] = omega arith
distance_le (x ∷ p) (y ∷ q) = one_more_le (eqb x y) (distance p q) (length p) (distance_le p q)

pub append_bytes : (ds p : List ℕ) → Bytes ds → Bytes p → Bytes (ds ++ p)
append_bytes [] p a b i = b i
append_bytes (x ∷ ds) p a b zero = a 0
append_bytes (x ∷ ds) p a b (suc i) = append_bytes ds p (λ j. a (suc j)) b i

pub take_bytes : (k : ℕ) (xs : List ℕ) → Bytes xs → Bytes (take k xs)
take_bytes zero xs b i = omega arith
take_bytes (suc k) [] b i = b i
take_bytes (suc k) (x ∷ xs) b zero = b 0
take_bytes (suc k) (x ∷ xs) b (suc i) = take_bytes k xs (λ j. b (suc j)) i

past_end : (xs : List ℕ) (i : ℕ) → length xs ≤ i → seq xs i ≡ 0
past_end xs i h = get_or-eq_default xs 0 {n = i} h

-- bytes that make the data before them a codeword
abbrev pub CompletesCodeword : ℕ → ℕ → ℕ → List ℕ → List ℕ → Type 0
CompletesCodeword poly first parity ds p = Passing (λ p. is_codeword poly first parity (ds ++ p)) parity p

module _ (poly : ℕ) (P : Primitive poly) (first parity : ℕ) (ds : List ℕ) where
  module _ (bytes : Bytes ds) (small : length ds + parity ≤ 255) where
    pub completes_one : (p q : List ℕ) → CompletesCodeword poly first parity ds p → CompletesCodeword poly first parity ds q → p ≡ q
    completes_one p q u v =
        sym (drop-append_seam ds p)
        ∙ ap (drop (length ds))
        (near_equal poly P first parity (ds ++ p) (ds ++ q) (omega (arith, length-append ds p, u.size))
        (length-append ds p ∙ omega (arith, u.size, v.size) ∙ sym (length-append ds q))
        (append_bytes ds p bytes u.bytes) (append_bytes ds q bytes v.bytes) u.test v.test
        (omega (arith, distance_behind ds p q, distance_le p q, u.size)))
        ∙ drop-append_seam ds q

    pub completes_found : (p : List ℕ) → CompletesCodeword poly first parity ds p → parity_of poly first parity ds ≡ some p
    unfolding parity_of
    completes_found p u = passing_some (λ p. is_codeword poly first parity (ds ++ p)) parity p u (λ q v. completes_one q p v u)

  -- the rest w' of the division of the data and zeros behind them follows them
  pub rest_completes : (k : ℕ) → length ds ≡ k → (g w' : ℕ → ℕ) → Generator poly first parity g → Divided poly parity g (k + parity) k (seq ds) w'
      → (p : List ℕ) → length p ≡ parity → ((i : ℕ) → i < parity → seq p i ≡ w' (k + i)) → CompletesCodeword poly first parity ds p
  rest_completes k e g w' G D p size are = record {
    test = zero_codeword poly first parity (ds ++ p) (λ j h.
        eval_horner poly (power poly (first + j)) (ds ++ p)
        ∙ ap (horner poly (seq (ds ++ p)) (power poly (first + j))) (length-append ds p ∙ ap₂ ◌+◌ e size)
        ∙ joined_root poly P parity g (k + parity) k (seq ds) w' (seq (ds ++ p)) D
        (λ i l. past_end ds i (omega arith)) (λ i l. get_or-append ds p 0 i (omega arith)) behind (power poly (first + j)) (G.roots j h));
    size = size;
    bytes = λ i. elim (dec_lt i parity) [
      | yes l ↦ omega (arith, are i l, D.bytes (k + i))
      | no l ↦ omega (arith, past_end p i (omega arith))
    ];
  }
    where
      behind : (i : ℕ) → k ≤ i → i < k + parity → seq (ds ++ p) i ≡ w' i
      behind i l h =
          (let q : i ≡ length ds + (i - k) = omega arith in ap (seq (ds ++ p)) q)
          ∙ get_or-append-add ds p (i - k) 0 ∙ are (i - k) (omega arith) ∙ (let q : k + (i - k) ≡ i = omega arith in ap w' q)

  -- ---- there are such bytes

  some_generator : (n : ℕ) → (g : ℕ → ℕ) × Generator poly first n g
  some_generator zero = (seq (1 ∷ []), generator_start poly first (seq (1 ∷ [])) refl (λ i h. past_end (1 ∷ []) i h))
  some_generator (suc n) = let r = some_generator n in (stepped poly (power poly (first + n)) 1 r.0 r.0, more n r.0 r.1)
    where
      more : (n : ℕ) (g : ℕ → ℕ) → Generator poly first n g → Generator poly first (suc n) (stepped poly (power poly (first + n)) 1 g g)
      more n g G =
          let e : n + 1 ≡ suc n = omega arith in rw e at (generator_next poly P first n g G)

  some_rest : (g : ℕ → ℕ) → Monic parity g → (n : ℕ) (w : ℕ → ℕ) → ((i : ℕ) → w i < 256) → (k : ℕ) → k + parity ≤ n → (w' : ℕ → ℕ) × Divided poly parity g n k w w'
  some_rest g M n w b zero h = (w, divided_start poly P parity g M n w b)
  some_rest g M n w b (suc k) h =
      let r = some_rest g M n w b k (omega arith) in
      let e : k + 1 ≡ suc k = omega arith in
      let o : k + suc parity ≤ n = omega arith in (
        stepped poly (r.0 k) k r.0 g,
        rw e at (divided_next poly P parity g M n w k r.0 r.1 o),
      )

  pub some_completes : Bytes ds → (p : List ℕ) × CompletesCodeword poly first parity ds p
  some_completes b =
      let g = some_generator parity in
      let r = some_rest g.0 g.1.monic (length ds + parity) (seq ds) b (length ds) (omega arith) in (
        table parity (λ i. r.0 (length ds + i)),
        rest_completes (length ds) refl g.0 r.0 g.1 r.1 (table parity (λ i. r.0 (length ds + i)))
            (length_table parity (λ i. r.0 (length ds + i))) (get_or_table parity (λ i. r.0 (length ds + i))),
      )

-- ---- what is written: data that stay, and bytes that follow them

pub written_by : (poly : ℕ) → Primitive poly → (first k : ℕ) (block block' : List ℕ) → Bytes block → length block ≤ 255 → k ≤ length block → take k block' ≡ take k block
    → CompletesCodeword poly first (length block - k) (take k block) (drop k block') → block' ≡ written_of poly first (length block - k) block
unfolding written_of
written_by poly P first k block block' bytes small h stay F =
    let e : length block - (length block - k) ≡ k = omega arith in
    sym (take-append-drop k block') ∙ rw (
      stay,
      e,
      completes_found poly P first (length block - k) (take k block) (take_bytes k block bytes)
          (omega (arith, length-take-le k block h)) (drop k block') F,
    )

-- ---- by plain division: w₁ are the data and zeros, w₂ the rest of their division

module _ (poly : ℕ) (P : Primitive poly) (k : ℕ) (block block' w₁ w₂ : List ℕ) (g : ℕ → ℕ) (bytes : Bytes block) (small : length block ≤ 255) (h : k ≤ length block)
    (E₁ : Each (copied_from 0 block) k (replicate 256 0) w₁)
    (D : Divided poly (length block - k) g (k + (length block - k)) k (seq w₁) (seq w₂))
    (E₂ : Each (copied_from k w₂) (length block) block block') where
  abbrev ds : List ℕ
  ds = take k block

  ds_length : length ds ≡ k
  ds_length = length-take-le k block h

  -- the data and zeros behind them
  data_zeros : seq w₁ ≡ seq ds
  data_zeros = fun_ext (λ i. elim (dec_lt i k) [
    | yes l ↦ E₁.done i l ∙ copied_high 0 block i (seq (replicate 256 0) i) (omega arith) ∙ sym (get_or-take k block i 0 l)
    | no l ↦ E₁.rest i (omega arith) ∙ zeros 256 i ∙ sym (past_end ds i (omega (arith, ds_length)))
  ])

  -- the data stay
  data_stay : take k block' ≡ ds
  data_stay = ext_get_or 0 (take k block') ds (size ∙ sym ds_length)
      (λ i l. let l : i < k = omega (arith, size) in
      get_or-take k block' i 0 l ∙ E₂.done i (omega arith) ∙ copied_low k w₂ i (seq block i) l ∙ sym (get_or-take k block i 0 l))
    where
      size : length (take k block') ≡ k
      size = length-take-le k block' (omega (arith, E₂.size))

  pub written : (first : ℕ) → Generator poly first (length block - k) g → block' ≡ written_of poly first (length block - k) block
  written first G =
      written_by poly P first k block block' bytes small h data_stay
      (rest_completes poly P first (length block - k) ds k ds_length g (seq w₂) G
      (rw data_zeros at D) (drop k block')
      (length-drop k block' ∙ ap (λ (n : ℕ). n - k) E₂.size)
      (λ i l. get_or-drop k block' i 0 ∙ E₂.done (k + i) (omega arith) ∙ copied_high k w₂ (k + i) (seq block (k + i)) (omega arith)))
