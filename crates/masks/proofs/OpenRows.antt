-- The masks of the rows of versions 1 to 3: a test that antt computes at all masks, rows and columns.
use Rattle.general.proofs.Names.{◌≡◌, Bool, List, ℕ, ◌+◌, ◌*◌, arith, T, eqb, eqb→eq, length, get_or}
use Rattle.bits.specs.Bits.{low_bits}
use Rattle.general.proofs.Finite.{up_to, every}
use Rattle.codewords.specs.Codewords.{mask_at}
use Rattle.masks.specs.Open.{OpenRows}

module _ (rows : List ℕ) where
  abbrev same : ℕ → ℕ → ℕ → Bool
  same mask i c = eqb (get_or (low_bits 27 (get_or rows (27 * mask + i) 0)) c 0) (mask_at mask (i + 1) (c + 1))

  abbrev pub agrees : Bool
  agrees = up_to (λ mask. up_to (λ i. up_to (λ c. same mask i c) 27) 27) 4

  pub open_rows : length rows ≡ 108 → T agrees → OpenRows rows
  open_rows e t = record {
    size = e;
    is = λ mask i c hm hi hc. eqb→eq _ _ (every (same mask i) 27
        (every (λ i. up_to (same mask i) 27) 27 (every (λ mask. up_to (λ i. up_to (same mask i) 27) 27) 4 t mask (omega arith)) i hi) c hc);
  }
