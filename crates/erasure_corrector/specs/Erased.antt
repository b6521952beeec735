-- SPECIFICATION 3.10: a block with erased places corrected. What is answered, and what is then in the block.
use Rattle.std.specs.Prelude.{cond, List, ℕ, ltb}
use Rattle.reed_solomon.specs.Block.{unfit}
use Rattle.reed_solomon.specs.Erased.{erasures, admitted}
use Rattle.corrector.specs.Correct.{BlockOutcome, refused_block, settled}

-- 5: a parity or a length that no block has; 15: more places erased than there is parity; 6: no codeword that the block's rule admits, else
-- the block becomes that one, and the count is the number of places in which it differed, erased or not
unfoldable pub correct_erased_of : ℕ → ℕ → ℕ → List ℕ → List ℕ → BlockOutcome
correct_erased_of poly first parity flags block =
    cond (unfit parity block) (refused_block 5 block)
    (cond (ltb parity (erasures flags)) (refused_block 15 block) (settled block (admitted poly first parity flags block)))
