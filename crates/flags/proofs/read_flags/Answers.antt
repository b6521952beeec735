-- `read_flags` meets its contract. Assumes nothing.
use Rattle.general.proofs.Names.{sym, length-take-le, arith}
use Rattle.flags.proofs.Marking.{zeros_taken}
use Rattle.flags.proofs.read_flags.Goals as goal

pub slice_bounds-mark_all-end-2 : goal.slice_bounds-mark_all-end-2
slice_bounds-mark_all-end-2 c = sym (length-take-le _ _ c.requires.total_in_bounds.0)

pub mark_all-requires : goal.mark_all-requires
mark_all-requires c =
    let l = length-take-le _ c.args.out.now c.requires.total_in_bounds.0 in
    (c.requires.modules_and_kinds.0, zeros_taken c.args.total c.args.out.now c.requires.modules_and_kinds.1, omega arith)

pub returns : goal.returns
returns c = rw (c.mark_all.ensures, length-take-le _ c.args.out.now c.requires.total_in_bounds.0)
