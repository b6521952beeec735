-- `check_script` meets its contract. Assumes nothing.
use Rattle.general.proofs.Names.{length-take-le, ◌≡◌, ◌+◌, ◌-◌, ◌≤◌, ◌<◌, arith, length, take, drop, length-drop}
use Rattle.script.specs.Inner.{command_size}
use Rattle.script.specs.Characters.{cost_of}
use Rattle.script.proofs.Checks.{run_bounds, eci_bounds, check_from_start, check_from_wrong, check_from_eci, check_from_short, check_from_takes}
use Rattle.script.proofs.Checks.{check_from_lacks, end_left, end_lacks, end_empty, end_bits, limited}
use Rattle.script.proofs.check_script.Goals as goal
use Rattle.script.proofs.check_script.Goals.{After-run_bits-cost, In-Eci, In-Run}

-- what the command has
bounds : (c : In-Run) → (1 ≤ c.in-Run.mode) × (c.in-Run.mode ≤ 7) × (c.in-Run.n < 65536) × (c.loop-i.i + command_size c.in-Run.mode ≤ length c.args.script.now)
bounds c = run_bounds c.args.script.now c.loop-i.i (λ i. omega (arith, c.type_inv.script i)) (omega arith) c.command_at-next.result c.command_at-next.ensures
    c.in-Run.mode c.in-Run.n c.in-Run.is

-- the bits of the run are those of its bytes
cost : (c : After-run_bits-cost) → c.run_bits-cost.result ≡ cost_of c.in-Run.mode (take c.in-Run.n (drop c.loop-i.j c.args.payload.now))
cost c = let n = c.in-Run.n in
    let z : c.loop-i.j + n - c.loop-i.j ≡ n = omega arith in
    rw z at c.run_bits-cost.ensures.0

eci_room : (c : In-Eci) → c.loop-i.i + 4 ≤ length c.args.script.now
eci_room c = eci_bounds c.args.script.now c.loop-i.i (λ i. omega (arith, c.type_inv.script i)) (omega arith) c.command_at-next.result
    c.command_at-next.ensures c.in-Eci.v c.in-Eci.is

pub loop-i-init : goal.loop-i-init
loop-i-init c = (omega arith, omega arith, omega arith, check_from_start c.args.script.now c.args.payload.now)

pub command_at-next-requires : goal.command_at-next-requires
command_at-next-requires c = omega arith

pub overflow_sub-payload : goal.overflow_sub-payload
overflow_sub-payload c = omega arith

pub returns-then-payload-j : goal.returns-then-payload-j
returns-then-payload-j c = check_from_short c.loop-i.invariant.3 (omega arith) c.command_at-next.ensures c.in-Run.is c.if-payload-j.true

pub overflow_add-end : goal.overflow_add-end
overflow_add-end c = omega arith

pub slice_bounds-run_bits-count : goal.slice_bounds-run_bits-count
slice_bounds-run_bits-count c = omega arith

pub slice_bounds-run_bits-start : goal.slice_bounds-run_bits-start
slice_bounds-run_bits-start c = omega arith

pub slice_bounds-run_bits-end : goal.slice_bounds-run_bits-end
slice_bounds-run_bits-end c = omega arith

pub run_bits-cost-requires : goal.run_bits-cost-requires
run_bits-cost-requires c = let b = bounds (goal.at.run_bits-cost-requires c).In-Run in
    let n = c.in-Run.n in
    let z : c.loop-i.j + n - c.loop-i.j ≡ n = omega arith in
    let k : n ≤ length (drop c.loop-i.j c.args.payload.now) = rw length-drop (omega arith) in
    rw (z, length-take-le n (drop c.loop-i.j c.args.payload.now) k) (b.0, b.1, b.2)

pub capped_sum-total-requires : goal.capped_sum-total-requires
capped_sum-total-requires c =
    let t = limited c.run_bits-cost.result c.in-Takes.b c.run_bits-cost.ensures.1 c.in-Takes.is in
    (omega arith, omega arith)

pub overflow_add-i : goal.overflow_add-i
overflow_add-i c = omega arith

pub loop-i-smaller-in-Takes : goal.loop-i-smaller-in-Takes
loop-i-smaller-in-Takes c = omega arith

pub loop-i-preserved-in-Takes : goal.loop-i-preserved-in-Takes
loop-i-preserved-in-Takes c =
    let w = c.command_size-i.ensures in
    let b = bounds (goal.at.loop-i-preserved-in-Takes c).In-Run in
    let d = check_from_takes c.loop-i.invariant.3 (omega arith) c.command_at-next.ensures c.in-Run.is c.if-payload-j.false
    (cost (goal.at.loop-i-preserved-in-Takes c).After-run_bits-cost) w.0 w.1 in
    (omega arith, omega arith, c.capped_sum-total.ensures.1, d c.in-Takes.is c.capped_sum-total.ensures.0)

pub overflow_add-i-in-NotInMode : goal.overflow_add-i-in-NotInMode
overflow_add-i-in-NotInMode c = omega arith

pub loop-i-smaller-in-NotInMode : goal.loop-i-smaller-in-NotInMode
loop-i-smaller-in-NotInMode c = omega arith

pub loop-i-preserved-in-NotInMode : goal.loop-i-preserved-in-NotInMode
loop-i-preserved-in-NotInMode c =
    let w = c.command_size-i-in-NotInMode.ensures in
    let b = bounds (goal.at.loop-i-preserved-in-NotInMode c).In-Run in
    let d = check_from_lacks c.loop-i.invariant.3 (omega arith) c.command_at-next.ensures c.in-Run.is c.if-payload-j.false (cost (goal.at.loop-i-preserved-in-NotInMode c).After-run_bits-cost) w.0
    w.1 in
    (omega arith, omega arith, c.loop-i.invariant.2, d c.in-NotInMode.is)

pub capped_sum-total-requires-in-Eci : goal.capped_sum-total-requires-in-Eci
capped_sum-total-requires-in-Eci c = omega arith

pub overflow_add-i-in-Eci : goal.overflow_add-i-in-Eci
overflow_add-i-in-Eci c = omega arith

pub loop-i-smaller : goal.loop-i-smaller
loop-i-smaller c = omega arith

pub loop-i-preserved : goal.loop-i-preserved
loop-i-preserved c =
    let r = eci_room (goal.at.loop-i-preserved c).In-Eci in
    let d = check_from_eci c.loop-i.invariant.3 (omega arith) c.command_at-next.ensures c.in-Eci.is in
    (omega arith, omega arith, c.capped_sum-total-in-Eci.ensures.1, d c.eci_bits.ensures.0 c.capped_sum-total-in-Eci.ensures.0)

pub returns-in-Wrong : goal.returns-in-Wrong
returns-in-Wrong c = check_from_wrong c.loop-i.invariant.3 (omega arith) c.command_at-next.ensures c.in-Wrong.is

pub returns-then-j-payload : goal.returns-then-j-payload
returns-then-j-payload c = end_left c.loop-i.invariant.3 (omega arith) c.if-j-payload.true

pub returns-then-lacks : goal.returns-then-lacks
returns-then-lacks c = end_lacks c.loop-i.invariant.3 (omega arith) (omega arith) c.if-lacks.true

pub returns-then-payload-eq0 : goal.returns-then-payload-eq0
returns-then-payload-eq0 c = end_empty c.loop-i.invariant.3 (omega arith) (omega arith) c.if-lacks.false c.if-payload-eq0.true

pub returns : goal.returns
returns c = end_bits c.loop-i.invariant.3 (omega arith) (omega arith) c.if-lacks.false c.if-payload-eq0.false c.loop-i.invariant.2
