-- `read_open` meets its contract. Assumes nothing.
use Rattle.placement.proofs.Rows.{first_codewords}
use Rattle.symbol.specs.Version.{side_of}
use Rattle.symbol.specs.Layout.{layout_of}
use Rattle.codewords.specs.Codewords.{mask_bit, data_bits}
use Rattle.general.proofs.Names.{length-take-le, sym, arith}
use Rattle.small_marks.proofs.read_open.Goals as goal

pub slice_bounds-read_open_rows-end-2 : goal.slice_bounds-read_open_rows-end-2
slice_bounds-read_open_rows-end-2 c = sym (length-take-le c.args.total c.args.out.now c.requires.total_in_bounds.0)

pub read_open_rows-requires : goal.read_open_rows-requires
read_open_rows-requires c =
    let l = length-take-le c.args.total c.args.out.now c.requires.total_in_bounds.0 in
    (c.requires.le_version.0, c.requires.le_version.1, c.requires.le_version.2, c.requires.le_version.3, c.requires.le_version.4, omega (arith, l))

pub returns : goal.returns
returns c =
    let v = c.args.version in
    first_codewords c.args.out.now (data_bits (mask_bit (side_of v) c.args.mask) 0 (layout_of v) c.args.square.now)
    c.args.total c.requires.total_in_bounds.0 c.read_open_rows.ensures
