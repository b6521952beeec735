-- `hx_correct_erased` meets its contract: flags of another length, and of the block's. Assumes nothing.
use Rattle.general.proofs.Names.{sym, ◌∙◌, eq-eqb, ne_eqb}
use Rattle.corrector.specs.Correct.{refused_block}
use Rattle.comparison.specs.Correcting.{flagged_of}
use Rattle.comparison.proofs.correcting.hx_correct_erased.Goals as goal

pub returns-then-flags-block : goal.returns-then-flags-block
unfolding flagged_of refused_block
returns-then-flags-block c = sym (simp (ne_eqb _ _ c.if-flags-block.true))

pub returns : goal.returns
unfolding flagged_of
returns c = simp (eq-eqb _ _ c.if-flags-block.false) (c.numbers.ensures.are _ ∙ c.correct.ensures)
