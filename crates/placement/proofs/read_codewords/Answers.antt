-- `read_codewords` meets its contract. Assumes nothing.
use Rattle.placement.proofs.Rows.{first_codewords}
use Rattle.codewords.specs.Codewords.{data_bits}
use Rattle.general.proofs.Names.{length-take-le, sym, arith}
use Rattle.placement.proofs.read_codewords.Goals as goal

pub slice_bounds-read_rows-end-2 : goal.slice_bounds-read_rows-end-2
slice_bounds-read_rows-end-2 c = sym (length-take-le _ _ c.requires.total_in_bounds.0)

pub read_rows-requires : goal.read_rows-requires
read_rows-requires c =
    let l = length-take-le _ c.args.out.now c.requires.total_in_bounds.0 in
    (c.requires.modules_and_kinds.0, c.requires.modules_and_kinds.1, c.requires.modules_and_kinds.2, c.requires.modules_and_kinds.3, omega arith)

pub returns : goal.returns
returns c =
    let all = data_bits _ 0 _ _ in
    first_codewords _ all _ c.requires.total_in_bounds.0 c.read_rows.ensures
