-- `add_digit` meets its contract. Assumes nothing.
use Rattle.general.proofs.Names.{ap, ◌∙◌, ℕ, ◌+◌, ◌*◌}
use Rattle.remainder.specs.Words.{row_at, sum_of}
use Rattle.remainder.proofs.add_digit.Goals as goal

pub returns : goal.returns
returns c =
    c.sum.ensures ∙ ap (sum_of c.args.r) (c.row_at.ensures
    ∙ ap (λ (f : ℕ). row_at c.args.t.now (16 * c.args.i + f)) c.digit.ensures.0)
