-- `mark_all` meets its contract. Assumes nothing.
use Rattle.general.proofs.Names.{refl, ap, ◌∙◌, ℕ, take, length-take-le, arith}
use Rattle.symbol.specs.Layout.{data_modules}
use Rattle.symbol.proofs.DataModules.{modules_few}
use Rattle.bits.specs.Bits.{first_words}
use Rattle.flags.specs.Inner.{unknown_bits}
use Rattle.flags.proofs.Marking.{flags_start, flags_end}
use Rattle.flags.proofs.mark_all.Goals as goal

pub loop-i-init : goal.loop-i-init
unfolding data_modules
loop-i-init c = (flags_start _ _ _ c.requires.0 c.requires.1 c.requires.2, refl, omega arith, refl)

pub overflow_add-p : goal.overflow_add-p
overflow_add-p c = let kinds = c.args.kinds.now in
    let end = c.run_end-end.result in
    omega (arith, c.run_modules.ensures, modules_few (take end kinds), length-take-le end kinds (omega arith))

pub loop-i-preserved : goal.loop-i-preserved
loop-i-preserved c = let made = c.mark_run.ensures in
    (made.0, omega (arith, c.run_modules.ensures), omega arith, made.1 ∙ c.loop-i.invariant.3)

pub returns : goal.returns
returns c = flags_end c.loop-i.invariant.0 (omega arith) ∙ ap (λ (n : ℕ). first_words 8 n (unknown_bits c.args.kinds.now c.args.square.now)) c.loop-i.invariant.3
