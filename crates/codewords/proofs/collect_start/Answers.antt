-- `collect_start` meets its contract. Assumes nothing.
use Rattle.codewords.proofs.Interleave.{move_enter, move_place, move_turn, move_leave}
use Rattle.general.proofs.Names.{false, arith}
use Rattle.codewords.proofs.collect_start.Goals as goal

pub loop-p-init : goal.loop-p-init
loop-p-init c = move_enter c.requires.0 c.requires.1

pub bounds-stream-p : goal.bounds-stream-p
bounds-stream-p c = omega arith

pub bounds-out-n : goal.bounds-out-n
bounds-out-n c = omega (arith, move_place c.loop-p.invariant c.loop-p-test.true)

pub overflow_add-n : goal.overflow_add-n
overflow_add-n c = omega (arith, move_place c.loop-p.invariant c.loop-p-test.true)

pub overflow_add-p : goal.overflow_add-p
overflow_add-p c = omega arith

pub loop-p-smaller : goal.loop-p-smaller
loop-p-smaller c = omega arith

pub loop-p-preserved : goal.loop-p-preserved
loop-p-preserved c = move_turn c.loop-p.invariant c.loop-p-test.true

pub shape_of-out : goal.shape_of-out
shape_of-out c = c.loop-p.invariant.kept

pub returns : goal.returns
returns c = (move_leave c.loop-p.invariant c.loop-p-test.false, c.loop-p.invariant.beyond)
