-- `data_modules` meets its contract. Assumes nothing.
use Rattle.symbol.specs.Layout.{data_modules}
use Rattle.symbol.proofs.DataModules.{modules_few}
use Rattle.general.proofs.Names.{take, length-take-le, ℕ, ◌≡◌, refl, ap, ◌∙◌, arith}
use Rattle.symbol.proofs.counting.data_modules.Goals as goal

pub loop-i-init : goal.loop-i-init
unfolding data_modules
loop-i-init c = (omega arith, refl)

pub overflow_add-count : goal.overflow_add-count
overflow_add-count c = let kinds = c.args.kinds.now in
    let end = c.run_end-end.result in omega (arith, modules_few (take end kinds), length-take-le end kinds (omega arith))

pub loop-i-smaller : goal.loop-i-smaller
unfolding data_modules
loop-i-smaller c = omega arith

pub loop-i-preserved : goal.loop-i-preserved
unfolding data_modules
loop-i-preserved c = (omega arith, omega arith)

pub returns : goal.returns
returns c = let e : c.loop-i.i ≡ c.args.n = omega arith in c.loop-i.invariant.1 ∙ ap (λ (k : ℕ). data_modules (take k c.args.kinds.now)) e
