-- SPECIFICATION 3.7 and 10.5: Correct a block. What it answers, and what is then in the block.
use Rattle.std.specs.Prelude.{cond, List, ℕ}
use Rattle.std.proofs.Math.Option.{Option, none, some}
use Rattle.reed_solomon.specs.Block.{distance, nearest, unfit}
use Rattle.corrector.specs.declared.Correction.{Correction}
use Rattle.corrector.specs.declared.Correction.TheVariants.{Corrected, Unfit, TooManyErased, OutOfReach}

-- what a call gives: the refusal number or 0, the count beside it, and the block as it is left
pub record BlockOutcome : Type 0 where
  pub number : ℕ
  pub count : ℕ
  pub block : List ℕ

-- a refusal leaves the block, with no count
unfoldable pub refused_block : ℕ → List ℕ → BlockOutcome
refused_block n block = record { number = n; count = 0; block = block }

-- 6: no codeword in reach; else the block becomes that codeword, and the count is the number of places in which it differed
unfoldable pub settled : List ℕ → Option (List ℕ) → BlockOutcome
settled block none = refused_block 6 block
settled block (some w) = record { number = 0; count = distance block w; block = w }

-- 5: a parity or a length that no block has
unfoldable pub correct_of : ℕ → ℕ → ℕ → List ℕ → BlockOutcome
correct_of poly first parity block = cond (unfit parity block) (refused_block 5 block) (settled block (nearest poly first parity block))

-- the refusal number (SPECIFICATION 2.7) and the count for each case of the answer, with the block
unfoldable pub outcome : Correction → List ℕ → BlockOutcome
outcome (Corrected n) block = record { number = 0; count = n; block = block }
outcome Unfit block = refused_block 5 block
outcome TooManyErased block = refused_block 15 block
outcome OutOfReach block = refused_block 6 block
