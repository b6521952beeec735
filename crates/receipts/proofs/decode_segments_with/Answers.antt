-- `decode_segments_with` meets its contract. Assumes nothing.
use Rattle.general.proofs.Names.{sym, ap, ◌∙◌, List, ℕ, arith, length-take-le}
use Rattle.block_table.specs.Blocks.{shapes, cut, data_parts}
use Rattle.segments.specs.FromData.{from_data}
use Rattle.receipts.proofs.Answers.{from_outcome, gathered}
use Rattle.receipts.proofs.decode_segments_with.Goals as goal

pub slice_bounds-from_data_with-end-2 : goal.slice_bounds-from_data_with-end-2
slice_bounds-from_data_with-end-2 c =
    sym (length-take-le c.gather_data-n.result c.gather_data-n.new.out (omega (
      arith,
      c.gather_data-n.ensures.0,
      c.requires,
    )))

pub returns : goal.returns
returns c =
    let d = data_parts (shapes c.args.row.now) (cut (shapes c.args.row.now) c.args.stream.now) in
    let f = gathered c.gather_data-n.result d c.args.«data».now c.gather_data-n.new.out c.gather_data-n.ensures.1 (omega (arith, c.gather_data-n.ensures.0, c.requires.2)) (omega arith) in
    from_outcome c.args.count c.from_data_with.result _ d c.args.payload.now c.args.script.now _ _ c.gather_data-n.result c.requires.4 f.0
    (omega (arith, c.gather_data-n.ensures.0, c.requires.3)) c.square_answer.ensures
    (c.from_data_with.ensures ∙ ap (λ (x : List ℕ). from_data x c.args.payload.now c.args.script.now) f.1)
