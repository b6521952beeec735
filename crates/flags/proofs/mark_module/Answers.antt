-- `mark_module` meets its contract. Assumes nothing.
use Rattle.general.proofs.Names.{◌≡◌, refl, ◌+◌, take, length-take-le, length-set, arith}
use Rattle.symbol.specs.Layout.{data_modules}
use Rattle.symbol.proofs.DataModules.{modules_few}
use Rattle.flags.proofs.Marking.{flags_other, flags_known, flags_marked, mark_fits}
use Rattle.flags.proofs.mark_module.Goals as goal
use Rattle.flags.proofs.mark_module.Goals.{After-run_modules}

-- the data modules before the module
number : (c : After-run_modules) → c.args.p + c.run_modules.result ≡ data_modules (take c.args.i c.args.kinds.now)
number c = omega (arith, c.requires.4, c.run_modules.ensures)

pub returns-then-square-i-lt2 : goal.returns-then-square-i-lt2
returns-then-square-i-lt2 c = (flags_known c.requires.0 c.requires.3 (omega arith), refl)

pub returns-then-kinds-i-ne0 : goal.returns-then-kinds-i-ne0
returns-then-kinds-i-ne0 c = (flags_other c.requires.0 c.requires.3 c.if-kinds-i-ne0.true, refl)

pub overflow_add-p : goal.overflow_add-p
overflow_add-p c =
    let ks = c.args.kinds.now in
    omega (arith, number (goal.at.overflow_add-p c).After-run_modules, modules_few (take c.args.i ks), length-take-le c.args.i ks (omega arith))

pub mark-requires : goal.mark-requires
mark-requires c = rw (number (goal.at.mark-requires c).After-run_modules) (mark_fits c.requires.0 c.requires.3)

pub returns : goal.returns
returns c =
    let up_to_lem = c.requires.0 in
    rw (c.mark.ensures, number (goal.at.returns c).After-run_modules) (
      flags_marked up_to_lem c.requires.3 (omega arith) (omega (arith, up_to_lem.given.modules c.args.i)),
      length-set c.args.flags.now _ _,
    )
