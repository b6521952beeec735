-- `write_in` meets its contract: the number of the place, or that of script and payload, or the mark. Assumes nothing.
use Rattle.writer.proofs.Starts.{mark_with_layout}
use Rattle.writer.proofs.Refusals.{answers_place, answers_script, none_refused, answers_zero}
use Rattle.writer.proofs.write_in.Goals as goal

pub place_refusal-place-requires : goal.place_refusal-place-requires
place_refusal-place-requires c = mark_with_layout _ c.args.kinds.now _ c.requires.0 c.requires.2 c.layout.ensures.1

pub returns-then-place-ne0 : goal.returns-then-place-ne0
returns-then-place-ne0 c = answers_place _ c.requires.0 c.args.script.now c.args.payload.now c.args.square.now _ c.place_refusal-place.ensures c.if-place-ne0.true

pub returns-then-text-ne0 : goal.returns-then-text-ne0
returns-then-text-ne0 c =
    answers_script _ c.requires.0 c.args.script.now c.args.payload.now c.args.square.now _ c.place_refusal-place.ensures
    c.if-place-ne0.false _ c.requires.3 c.if-text-ne0.true

pub write_mark-requires : goal.write_mark-requires
write_mark-requires c = (
  mark_with_layout _ c.args.kinds.now _ c.requires.0 c.requires.2 c.layout.ensures.1,
  none_refused _ c.requires.0 c.args.script.now c.args.payload.now c.args.square.now _
      c.place_refusal-place.ensures c.if-place-ne0.false _ c.requires.3 c.if-text-ne0.false,
  c.requires.1,
)

pub returns : goal.returns
returns c =
    answers_zero _ c.requires.0 c.args.script.now c.args.payload.now c.args.square.now _ c.place_refusal-place.ensures
    c.if-place-ne0.false _ c.requires.3 c.if-text-ne0.false _ c.write_mark.ensures
