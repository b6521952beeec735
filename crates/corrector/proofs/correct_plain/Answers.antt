-- `correct_plain` meets its contract: the table is that of 163 hex. Assumes nothing.
use Rattle.general.proofs.Names.{ap, ◌∙◌, ℕ}
use Rattle.corrector.specs.Correct.{correct_of}
use Rattle.corrector.proofs.correct_plain.Goals as goal

pub returns : goal.returns
returns c =
    c.correct_over.ensures ∙ ap (λ (p : ℕ). correct_of p 1 c.args.parity c.args.block.now)
    c.han_xin-field.ensures.1
