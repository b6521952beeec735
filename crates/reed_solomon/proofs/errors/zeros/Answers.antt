-- `errors::zeros` meets its contract: one place after the other is counted. Assumes nothing.
use Rattle.general.proofs.Names.{◌≡◌, refl, ap, ◌∙◌, ℕ, arith}
use Rattle.reed_solomon.specs.Sum.{seq}
use Rattle.reed_solomon.specs.Inner.{zeros_of}
use Rattle.reed_solomon.proofs.Distance.{zeros_more, zeros_same}
use Rattle.reed_solomon.proofs.errors.zeros.Goals as goal
use Rattle.reed_solomon.proofs.errors.zeros.Goals.{then-e-d-eq0, else-e-d-eq0}

pub loop-d-init : goal.loop-d-init
unfolding zeros_of
loop-d-init c = (refl, omega arith, omega arith)

pub loop-d-preserved : goal.loop-d-preserved
loop-d-preserved c =
    let e = seq c.args.e.now in
    let d = c.loop-d.d in
    elim c.if-e-d-eq0.branch [
      | then-e-d-eq0 w ↦ (omega (arith, zeros_more e d w.if-e-d-eq0.true, w.count-is), omega arith, omega arith)
      | else-e-d-eq0 w ↦ (omega (arith, zeros_same e d w.if-e-d-eq0.false, w.count-is), omega arith, omega arith)
    ]

pub returns : goal.returns
returns c = let e : c.loop-d.d ≡ c.args.n = omega arith in (c.loop-d.invariant.0 ∙ ap (λ (k : ℕ). zeros_of k (seq c.args.e.now)) e, omega arith)
