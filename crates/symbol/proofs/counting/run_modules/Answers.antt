-- `run_modules` meets its contract. Assumes nothing.
use Rattle.symbol.proofs.DataModules.{modules_more}
use Rattle.symbol.specs.Layout.{data_modules}
use Rattle.general.proofs.Names.{take, ℕ, ◌+◌, ◌≡◌, ap, ◌∙◌, arith}
use Rattle.symbol.proofs.counting.run_modules.Goals as goal

pub loop-i-init : goal.loop-i-init
loop-i-init c = (omega arith, omega arith, omega arith)

pub bounds-kinds-i : goal.bounds-kinds-i
bounds-kinds-i c = omega arith

pub overflow_add-count : goal.overflow_add-count
overflow_add-count c = omega (arith, c.data_module-count.ensures.1)

pub overflow_add-i : goal.overflow_add-i
overflow_add-i c = omega arith

pub loop-i-smaller : goal.loop-i-smaller
loop-i-smaller c = omega arith

pub loop-i-preserved : goal.loop-i-preserved
loop-i-preserved c =
    let more : data_modules _ + c.loop-i.count + c.data_module-count.result ≡ data_modules
    _ =
    modules_more _ _ _ _ _ c.requires.2
    c.loop-i-test.true c.data_module-count.ensures.0 c.loop-i.invariant.2 in
    (omega arith, omega arith, omega (arith, more))

pub returns : goal.returns
returns c = let e : c.loop-i.i ≡ c.args.to = omega arith in c.loop-i.invariant.2 ∙ ap (λ (k : ℕ). data_modules (take k c.args.kinds.now)) e
