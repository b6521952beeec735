-- SPECIFICATION 2.6: the receipt, 12 bytes.
use Rattle.std.specs.Prelude.{List, [], ◌∷◌, ℕ, ◌/◌, ◌%◌, replicate}

-- 0, version, level, mask, corrected (2), information distance, payload length (2), script length (2), a zero; two-byte numbers big-endian
unfoldable pub receipt_of : ℕ → ℕ → ℕ → ℕ → ℕ → ℕ → ℕ → List ℕ
receipt_of version level mask corrected distance payload script =
    0 ∷ version ∷ level ∷ mask ∷ (corrected / 256) ∷ (corrected % 256) ∷ distance
    ∷ (payload / 256) ∷ (payload % 256) ∷ (script / 256) ∷ (script % 256) ∷ 0 ∷ []

-- after a refusal all but the first are 0
unfoldable pub refusal_receipt : ℕ → List ℕ
refusal_receipt n = n ∷ replicate 11 0
