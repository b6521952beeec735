-- `write_many` meets its contract: one block more in each turn. Assumes nothing.
use Rattle.general.proofs.Names.{refl, sym, ◌∙◌, ◌+◌, ◌≤◌, arith, length}
use Rattle.reed_solomon.proofs.Massey.{zeros}
use Rattle.blocks.proofs.Rule.{batch_fit, batch_none}
use Rattle.blocks.proofs.Splice.{part_kept}
use Rattle.blocks.proofs.Transfers.{transfer_start, transfer_end, one_room, one_next, one_written, part_length, prepared_as}
use Rattle.block_writer.proofs.write_many.Goals as goal
use Rattle.block_writer.proofs.write_many.Goals.{In-loop-left}

-- the place of a turn's block, and that of its data
place : (c : In-loop-left) →
    let b = c.args.b in
    (c.loop-left.into + (b.info + b.parity) ≤ length c.loop-left.stream) × (c.loop-left.at + b.info ≤ length c.args.«data».now)
place c = one_room _ _ _ c.loop-left.invariant c.loop-left-test.true

pub returns-then-b-eq0 : goal.returns-then-b-eq0
returns-then-b-eq0 c = transfer_end (transfer_start c.requires.1) (batch_none _ _ _ (omega (arith, c.if-b-eq0.true)))

pub prepare-requires : goal.prepare-requires
prepare-requires c = (refl, zeros 512)

pub loop-left-init : goal.loop-left-init
loop-left-init c = transfer_start c.requires.1

pub overflow_add-end : goal.overflow_add-end
overflow_add-end c = omega (arith, place (goal.at.overflow_add-end c).In-loop-left)

pub overflow_add-end-in-loop-left : goal.overflow_add-end-in-loop-left
overflow_add-end-in-loop-left c = omega (arith, place (goal.at.overflow_add-end-in-loop-left c).In-loop-left)

pub copy-requires : goal.copy-requires
copy-requires c = let p = place (goal.at.copy-requires c).In-loop-left in (omega (arith, p.0), p.1)

pub slice_bounds-write_with-end : goal.slice_bounds-write_with-end
slice_bounds-write_with-end c = sym c.prepare.ensures.size

pub slice_bounds-write_with-end-in-loop-left : goal.slice_bounds-write_with-end-in-loop-left
slice_bounds-write_with-end-in-loop-left c = omega (arith, place (goal.at.slice_bounds-write_with-end-in-loop-left c).In-loop-left, c.copy.auto.dst)

pub write_with-requires : goal.write_with-requires
write_with-requires c =
    let b = c.args.b in
    let into = c.loop-left.into in
    let fit = batch_fit _ _ _ c.requires.0 (omega (arith, c.if-b-eq0.false)) in
    let n = part_length into (into + (b.info + b.parity)) (b.info + b.parity) c.copy.new.dst refl (omega (arith, (place (goal.at.write_with-requires c).In-loop-left).0, c.copy.auto.dst)) in
    (omega (arith, n), omega (arith, n, fit.2), prepared_as c.prepare.ensures (omega (arith, n)), fit.0)

pub overflow_add-at : goal.overflow_add-at
overflow_add-at c = omega (arith, place (goal.at.overflow_add-at c).In-loop-left)

pub loop-left-preserved : goal.loop-left-preserved
loop-left-preserved c =
    let b = c.args.b in
    let end = c.loop-left.into + (b.info + b.parity) in
    one_next _ _ _ c.loop-left.invariant c.loop-left-test.true
    (one_written b.info b.parity c.loop-left.into end c.loop-left.at c.args.«data».now c.loop-left.stream _ _ refl (place (goal.at.loop-left-preserved c).In-loop-left).0 (place (goal.at.loop-left-preserved c).In-loop-left).1
    c.copy.ensures c.write_with.ensures)
    (part_kept c.loop-left.into end c.copy.new.dst c.write_with.new.block (omega arith) (omega (arith, (place (goal.at.loop-left-preserved c).In-loop-left).0, c.copy.auto.dst))
    c.write_with.auto.block ∙ c.copy.auto.dst)

pub shape_of-stream : goal.shape_of-stream
shape_of-stream c = c.loop-left.invariant.size

pub returns : goal.returns
returns c = transfer_end c.loop-left.invariant (batch_none _ _ _ c.loop-left-test.false)
