-- `write_mark_in` meets its contract: the stream, its square, and the word in it. Assumes nothing.
use Rattle.general.proofs.Names.{sym, ap, ◌∙◌, ℕ, ◌*◌, arith, length-take-le}
use Rattle.marks.proofs.Starts.{row_total, row_own}
use Rattle.writer.proofs.DataRoom.{room_is, fits, fits_lent, lent_back, size}
use Rattle.writer.proofs.StreamToMark.{stream_of_row, mark_made}
use Rattle.writer.proofs.write_mark_in.Goals as goal

pub data_length-room-requires : goal.data_length-room-requires
data_length-room-requires c = c.requires.row.0.nine

pub slice_bounds-encode_stream-end : goal.slice_bounds-encode_stream-end
slice_bounds-encode_stream-end c = omega (arith, (room_is c.requires.mark_with_layout.0.valid _ c.requires.row.0.is _ c.data_length-room.ensures).2, c.requires.row.2)

pub slice_bounds-encode_stream-end-2 : goal.slice_bounds-encode_stream-end-2
slice_bounds-encode_stream-end-2 c = sym (length-take-le _ _ (omega (arith, (room_is c.requires.mark_with_layout.0.valid _ c.requires.row.0.is _ c.data_length-room.ensures).2, c.requires.row.2)))

pub encode_stream-requires : goal.encode_stream-requires
encode_stream-requires c = let R = c.requires.mark_with_layout.0.valid in
    let r = c.requires.row.0 in
    let n = c.data_length-room.ensures in
    let e = room_is R _ r.is _ n in record {
      row_len = (
        r.nine,
        row_own _ _ R.low R.high R.level _ r.is,
        omega
            (arith, c.requires.row.1, row_total _ _ R.low R.high R.level _ r.is),
        length-take-le _ _ (omega (arith, e.2, c.requires.row.2)) ∙ n,
      );
      fits = fits_lent c.args.script.now c.args.payload.now c.args.spare.now _ _ e.0 e.1 (omega (arith, e.2, c.requires.row.2))
          (fits _ _ _ c.args.script.now c.args.payload.now c.args.square.now c.requires.mark_with_layout.1);
    }

pub place_stream-requires : goal.place_stream-requires
place_stream-requires c = (
  c.requires.mark_with_layout.0,
  size _ _ _ c.args.script.now c.args.payload.now c.args.square.now c.requires.mark_with_layout.1,
  omega
      (arith, c.encode_stream.auto, c.requires.row.1),
  lent_back
      c.data_length-room.result _
      c.encode_stream.new.data c.args.spare.now
      c.encode_stream.auto.data
      (omega (
        arith,
        (room_is c.requires.mark_with_layout.0.valid _ c.requires.row.0.is _
            c.data_length-room.ensures).2,
        c.requires.row.2,
      )) c.requires.row.2,
)

pub write_info-requires : goal.write_info-requires
write_info-requires c =
    let e = c.side-side.ensures in (
      omega (arith, e),
      omega (arith, e, c.requires.mark_with_layout.0.valid.high),
      omega (
        arith,
        c.place_stream.auto,
        ap (λ (n : ℕ). n * n) e,
        size _ _ _ c.args.script.now
            c.args.payload.now c.args.square.now c.requires.mark_with_layout.1,
      ),
    )

pub returns : goal.returns
returns c =
    let R = c.requires.mark_with_layout.0.valid in
    let r = c.requires.row.0.is in
    mark_made _ c.args.script.now c.args.payload.now _ _ _ _ R
    c.side-side.ensures
    (stream_of_row c.args.script.now c.args.payload.now _ _ _ _ r (row_total _ _ R.low R.high R.level _ r)
    c.encode_stream.ensures) c.place_stream.ensures
    c.write_info.ensures
