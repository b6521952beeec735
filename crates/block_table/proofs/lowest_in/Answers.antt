-- `lowest_in` meets its contract: the lowest version from here on is that from the start on. Assumes nothing.
use Rattle.general.proofs.Names.{refl, sym, ◌∙◌, ◌+◌, ◌-◌, ◌*◌, arith, le-leb, lt-leb, rules}
use Rattle.general.proofs.Lowest.{search_stops, search_goes_on, search_ends}
use Rattle.block_table.specs.Inner.{enough}
use Rattle.block_table.proofs.lowest_in.Goals as goal

pub loop-version-init : goal.loop-version-init
loop-version-init c = (search rules, search rules, refl)

pub overflow_cast-table : goal.overflow_cast-table
overflow_cast-table c = omega (arith, c.type_inv.table (4 * (c.loop-version.version - 1) + c.args.level))

pub overflow_mul-table : goal.overflow_mul-table
overflow_mul-table c = omega (arith, c.type_inv.table (4 * (c.loop-version.version - 1) + c.args.level))

pub returns-then-bits-table : goal.returns-then-bits-table
returns-then-bits-table c =
    sym (c.loop-version.invariant.2
    ∙ search_stops (enough c.args.table.now c.args.level c.args.bits) c.loop-version.version 85 c.loop-version-test.true
    (le-leb _ _ c.if-bits-table.true))

pub loop-version-preserved : goal.loop-version-preserved
loop-version-preserved c =
    let e = search_goes_on (enough c.args.table.now c.args.level c.args.bits) c.loop-version.version 85 c.loop-version-test.true
    (lt-leb _ _ c.if-bits-table.false) in
    (omega arith, omega (arith, c.loop-version-test.true), c.loop-version.invariant.2 ∙ e)

pub returns : goal.returns
returns c = sym (c.loop-version.invariant.2 ∙ search_ends (enough c.args.table.now c.args.level c.args.bits) c.loop-version.version 85 c.loop-version-test.false)
