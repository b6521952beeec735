-- `encode` meets its contract. Assumes nothing.
use Rattle.general.proofs.Names.{◌≡◌, refl, ◌∙◌, ◌+◌, ◌-◌, ◌≤◌, add-zero, arith, length, take, drop}
use Rattle.segments.specs.Script.{run, eci}
use Rattle.script.specs.Inner.{command_size}
use Rattle.encoding.proofs.Segments.{Next, begun, never_wrong, run_next, eci_next, ended}
use Rattle.encoding.proofs.encode.Goals as goal
use Rattle.encoding.proofs.encode.Goals.{In-Eci, In-Run}

-- the segment in front, where the command is one of modes 1 to 7
next_run : (c : In-Run) →
    (1 ≤ c.in-Run.mode) × (c.in-Run.mode ≤ 7)
    × Next c.args.script.now c.args.payload.now (length c.args.codewords.now) c.loop-i.codewords c.loop-i.i c.loop-i.j c.loop-i.at
    (run c.in-Run.mode (take c.in-Run.n (drop c.loop-i.j c.args.payload.now))) (command_size c.in-Run.mode) c.in-Run.n
next_run c = run_next (omega arith) c.command_at-next.ensures c.loop-i.invariant.4 (λ q. omega (arith, c.type_inv.script q))
    c.in-Run.is

-- and where it is an ECI
next_eci : (c : In-Eci) →
    Next c.args.script.now c.args.payload.now (length c.args.codewords.now) c.loop-i.codewords c.loop-i.i c.loop-i.j c.loop-i.at (eci c.in-Eci.v) 4 0
next_eci c = eci_next (omega arith) c.command_at-next.ensures c.loop-i.invariant.4 (λ q. omega (arith, c.type_inv.script q))
    c.in-Eci.is

pub loop-i-init : goal.loop-i-init
loop-i-init c = (
  refl,
  omega arith,
  omega arith,
  c.requires.1,
  begun c.args.script.now c.args.payload.now (length c.args.codewords.now) c.args.codewords.now
      (λ k. omega (arith, c.type_inv.script k)) c.requires.0,
)

pub command_at-next-requires : goal.command_at-next-requires
command_at-next-requires c = omega arith

pub overflow_add-end : goal.overflow_add-end
overflow_add-end c = let t = next_run (goal.at.overflow_add-end c).In-Run in omega arith

pub slice_bounds-write_run-count : goal.slice_bounds-write_run-count
slice_bounds-write_run-count c = let t = next_run (goal.at.slice_bounds-write_run-count c).In-Run in omega arith

pub slice_bounds-write_run-start : goal.slice_bounds-write_run-start
slice_bounds-write_run-start c = let t = next_run (goal.at.slice_bounds-write_run-start c).In-Run in omega arith

pub slice_bounds-write_run-end : goal.slice_bounds-write_run-end
slice_bounds-write_run-end c = let t = next_run (goal.at.slice_bounds-write_run-end c).In-Run in omega arith

pub write_run-at-requires : goal.write_run-at-requires
write_run-at-requires c =
    let n = c.in-Run.n in
    let t = next_run (goal.at.write_run-at-requires c).In-Run in
    let z : c.loop-i.j + n - c.loop-i.j ≡ n = omega arith in
    let w = c.loop-i.invariant.0 in
    rw (z, w) (omega arith, t.0, t.1, t.2.mode_has, t.2.room)

pub overflow_add-i : goal.overflow_add-i
overflow_add-i c = omega arith

pub loop-i-smaller-in-Run : goal.loop-i-smaller-in-Run
loop-i-smaller-in-Run c = let t = next_run (goal.at.loop-i-smaller-in-Run c).In-Run in omega arith

pub loop-i-preserved-in-Run : goal.loop-i-preserved-in-Run
loop-i-preserved-in-Run c =
    let n = c.in-Run.n in
    let t = next_run (goal.at.loop-i-preserved-in-Run c).In-Run in
    let z : c.loop-i.j + n - c.loop-i.j ≡ n = omega arith in
    let e = c.command_size-i.ensures.0 in
    (c.write_run-at.auto.buf ∙ c.loop-i.invariant.0, omega arith, omega arith, c.loop-i.invariant.3, rw e (t.2.done (rw z at c.write_run-at.ensures)))

pub write_eci-at-requires : goal.write_eci-at-requires
write_eci-at-requires c = rw c.loop-i.invariant.0 (omega arith, (next_eci (goal.at.write_eci-at-requires c).In-Eci).room)

pub overflow_add-i-in-Eci : goal.overflow_add-i-in-Eci
overflow_add-i-in-Eci c = omega arith

pub loop-i-smaller : goal.loop-i-smaller
loop-i-smaller c = let t = next_eci (goal.at.loop-i-smaller c).In-Eci in omega arith

pub loop-i-preserved : goal.loop-i-preserved
loop-i-preserved c =
    let t = next_eci (goal.at.loop-i-preserved c).In-Eci in
    (c.write_eci-at.auto.buf ∙ c.loop-i.invariant.0, omega arith, omega arith, c.loop-i.invariant.3, rw add-zero at (t.done c.write_eci-at.ensures))

pub shape_of-codewords-in-Wrong : goal.shape_of-codewords-in-Wrong
shape_of-codewords-in-Wrong c = c.loop-i.invariant.0

pub returns-in-Wrong : goal.returns-in-Wrong
returns-in-Wrong c = never_wrong (omega arith) c.command_at-next.ensures c.loop-i.invariant.4 c.in-Wrong.is

pub pad-requires : goal.pad-requires
pad-requires c = (omega arith, omega arith)

pub shape_of-codewords : goal.shape_of-codewords
shape_of-codewords c = c.pad.auto.buf ∙ c.loop-i.invariant.0

pub returns : goal.returns
returns c = ended (omega arith) c.loop-i.invariant.4 c.pad.new.buf (λ k. omega (arith, c.type_inv.codewords k)) (rw c.loop-i.invariant.0 at c.pad.ensures)
