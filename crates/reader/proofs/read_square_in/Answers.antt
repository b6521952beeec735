-- `read_square_in` meets its contract. Assumes nothing.
use Rattle.general.proofs.Names.{◌∙◌, arith}
use Rattle.reader.proofs.FirstRefusals.{read_receipt, read_side, side_small, early_small, read_early, read_square_fits, read_far, read_fits, read_left}
use Rattle.reader.proofs.read_square_in.Goals as goal

pub returns-then-receipt-ne12 : goal.returns-then-receipt-ne12
returns-then-receipt-ne12 c = read_receipt c.args.square.now c.args.side _ _ _ c.if-receipt-ne12.true

pub returns-in_default : goal.returns-in_default
returns-in_default c =
    read_side c.args.square.now c.args.side c.args.payload.now c.args.script.now c.args.receipt.now c.if-receipt-ne12.false _ c.from_side.ensures.0
    c.from_side.ensures.1 c.in_default.is _ _ c.refuse.ensures

pub look_at-early-requires : goal.look_at-early-requires
look_at-early-requires c =
    side_small c.args.square.now c.args.side c.args.payload.now c.args.script.now c.args.receipt.now c.if-receipt-ne12.false _ c.from_side.ensures.0
    c.from_side.ensures.1 _ c.in-Found.is

pub refuse-requires-then-early-ne0 : goal.refuse-requires-then-early-ne0
refuse-requires-then-early-ne0 c = (c.if-receipt-ne12.false, early_small c.args.square.now c.args.side _ c.look_at-early.ensures.0)

pub returns-then-early-ne0 : goal.returns-then-early-ne0
returns-then-early-ne0 c =
    read_early c.args.square.now c.args.side c.args.payload.now c.args.script.now c.args.receipt.now c.if-receipt-ne12.false _ c.from_side.ensures.0
    c.from_side.ensures.1 _ c.in-Found.is _ c.look_at-early.ensures.0 c.if-early-ne0.true _ _ c.refuse-then-early-ne0.ensures

pub mark_in-m-requires : goal.mark_in-m-requires
mark_in-m-requires c =
    read_square_fits c.args.square.now c.args.side c.args.payload.now c.args.script.now c.args.receipt.now c.if-receipt-ne12.false _ c.from_side.ensures.0
    c.from_side.ensures.1 _ c.in-Found.is _ c.look_at-early.ensures.0 c.if-early-ne0.false

pub returns-then-m-gt10 : goal.returns-then-m-gt10
returns-then-m-gt10 c =
    read_far c.args.square.now c.args.side c.args.payload.now c.args.script.now c.args.receipt.now c.if-receipt-ne12.false _ c.from_side.ensures.0
    c.from_side.ensures.1 _ c.in-Found.is _ c.look_at-early.ensures.0 c.if-early-ne0.false _ c.mark_in-m.ensures
    c.if-m-gt10.true _ _ c.refuse-then-m-gt10.ensures

pub finish_in-requires : goal.finish_in-requires
finish_in-requires c =
    let fits = read_fits c.args.square.now c.args.side c.args.payload.now c.args.script.now c.args.receipt.now c.if-receipt-ne12.false _ c.from_side.ensures.0
    c.from_side.ensures.1 _ c.in-Found.is _ c.look_at-early.ensures.0 c.if-early-ne0.false _ c.mark_in-m.ensures
    (omega arith) in
    (fits, c.if-receipt-ne12.false, c.requires.room _ fits.high fits.size, c.look_at-early.ensures.1)

pub returns : goal.returns
returns c =
    c.finish_in.ensures
    ∙ read_left c.args.square.now c.args.side c.args.payload.now c.args.script.now c.args.receipt.now c.if-receipt-ne12.false _ c.from_side.ensures.0
    c.from_side.ensures.1 _ c.in-Found.is _ c.look_at-early.ensures.0 c.if-early-ne0.false _ c.mark_in-m.ensures
    (omega arith)
