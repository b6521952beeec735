-- What a customer may quote of the parity of data (SPECIFICATION 3.8). Each holds for any polynomial that passes the order test (3.2), any
-- first root, and data of bytes with at most 255 places together with their parity. Assumes nothing.
use Rattle.general.proofs.Names.{◌≡◌, sym, ap, ◌∙◌, subst, some, List, ◌++◌, ℕ, ◌+◌, ◌-◌, ◌≤◌, arith, T, length, length-append, length-take-le, take_at}
use Rattle.field.specs.Field.{order_test}
use Rattle.field.proofs.Field.{primitive}
use Rattle.reed_solomon.specs.Block.{is_codeword, parity_of}
use Rattle.reed_solomon.proofs.Search.{Bytes, found_passing}
use Rattle.parity.specs.Encode.{data_part, written_of}
use Rattle.parity.proofs.ParityBytes.{append_bytes, take_bytes, CompletesCodeword, completes_one, completes_found, some_completes}
use Rattle.parity.specs.Inner.{with_parity}

module _ (poly : ℕ) (test : T (order_test poly)) (first parity : ℕ) (ds : List ℕ) where
  completes_of : (p : List ℕ) → parity_of poly first parity ds ≡ some p → CompletesCodeword poly first parity ds p
  unfolding parity_of
  completes_of p e = found_passing (λ p. is_codeword poly first parity (ds ++ p)) parity p e

  -- Data have a parity: the search finds bytes, as many as it should.
  pub has_parity : Bytes ds → length ds + parity ≤ 255
      → (p : List ℕ) × (parity_of poly first parity ds ≡ some p) × (length p ≡ parity) × Bytes p
  has_parity b small =
      let r = some_completes poly (primitive poly test) first parity ds b in
      (r.0, completes_found poly (primitive poly test) first parity ds b small r.0 r.1, r.1.size, r.1.bytes)

  -- Data followed by their parity are a codeword.
  pub parity_makes_codeword : (p : List ℕ) → parity_of poly first parity ds ≡ some p → T (is_codeword poly first parity (ds ++ p))
  parity_makes_codeword p e = (completes_of p e).test

  -- It is the only codeword with these data.
  pub only_codeword : Bytes ds → length ds + parity ≤ 255 → (p q : List ℕ) → parity_of poly first parity ds ≡ some p → length q ≡ parity → Bytes q
      → T (is_codeword poly first parity (ds ++ q)) → q ≡ p
  only_codeword b small p q e size bytes t =
      completes_one poly (primitive poly test) first parity ds b small q p (record { test = t; size = size; bytes = bytes }) (completes_of p e)

-- What is written is a codeword of the same length with the same data.
pub written_codeword : (poly : ℕ) → T (order_test poly) → (first parity : ℕ) (block : List ℕ) → Bytes block → parity ≤ length block → length block ≤ 255
    → T (is_codeword poly first parity (written_of poly first parity block)) × (length (written_of poly first parity block) ≡ length block)
    × (data_part parity (written_of poly first parity block) ≡ data_part parity block) × Bytes (written_of poly first parity block)
unfolding written_of
written_codeword poly test first parity block b h small =
    let ds = data_part parity block in
    let k : length ds ≡ length block - parity = length-take-le (length block - parity) block (omega arith) in
    let bd : Bytes ds = take_bytes (length block - parity) block b in
    let r = has_parity poly test first parity ds bd (omega arith) in
    let n : length (ds ++ r.0) ≡ length block = length-append ds r.0 ∙ omega (arith, r.2) in
    subst
    (λ (w : List ℕ). T (is_codeword poly first parity w) × (length w ≡ length block) × (data_part parity w ≡ ds) × Bytes w)
    (sym (ap (with_parity ds) r.1)) (
      parity_makes_codeword poly test first parity ds r.0 r.1,
      n,
      take_at ds r.0 (length (ds ++ r.0) - parity) (k ∙ ap (λ (m : ℕ). m - parity) (sym n)),
      append_bytes ds r.0 bd r.3,
    )
