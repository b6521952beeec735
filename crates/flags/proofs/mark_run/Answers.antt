-- `mark_run` meets its contract. Assumes nothing.
use Rattle.general.proofs.Names.{◌≡◌, refl, ◌∙◌, arith}
use Rattle.flags.proofs.Marking.{flags_told}
use Rattle.flags.proofs.mark_run.Goals as goal

pub returns-then-not-any_unknown : goal.returns-then-not-any_unknown
returns-then-not-any_unknown c = (flags_told c.requires.0 c.requires.1 c.requires.3 c.any_unknown.ensures c.if-not-any_unknown.true-raw, refl)

pub loop-i-preserved : goal.loop-i-preserved
loop-i-preserved c = let made = c.mark_group.ensures in
    (made.0, omega arith, omega arith, made.1 ∙ c.loop-i.invariant.3)

pub returns : goal.returns
returns c =
    let e : c.loop-i.i ≡ c.args.to = omega arith in
    (rw e at c.loop-i.invariant.0, c.loop-i.invariant.3)
