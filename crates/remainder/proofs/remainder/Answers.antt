-- `remainder` meets its contract. Assumes nothing.
use Rattle.general.proofs.Names.{◌≡◌, arith}
use Rattle.remainder.proofs.Steps.{left_rows, left_next}
use Rattle.remainder.proofs.Lowered.{leaves}
use Rattle.remainder.proofs.remainder.Goals as goal

pub loop-i-init : goal.loop-i-init
loop-i-init c = (omega arith, omega arith, left_rows _ _ _ _ c.remainder_bytewise-r.ensures)

pub step-r-requires : goal.step-r-requires
step-r-requires c = (c.requires.0, c.four.ensures.1)

pub loop-i-preserved : goal.loop-i-preserved
loop-i-preserved c = (omega arith, omega arith, left_next _ _ _ _ _ _ c.loop-i.invariant.2 (omega arith) (λ j. omega (arith, c.type_inv.block j)) c.four.ensures.0 c.step-r.ensures)

pub returns : goal.returns
returns c =
    let e : c.loop-i.i ≡ c.args.k = omega arith in
    λ parity Q. leaves _ _ _ _ _ Q.rows c.requires.1 (λ j. omega (arith, c.type_inv.block j)) (rw e at c.loop-i.invariant.2)
