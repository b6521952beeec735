use Rattle.placement.specs.Walk.{bits_from, FewPending, Walk}
use Rattle.symbol.specs.Version.{side_of}
use Rattle.symbol.specs.Layout.{layout_of}
use Rattle.codewords.specs.Codewords.{mask_bit, data_bits}
use Rattle.general.proofs.Names.{length, ◌-◌, ◌*◌, ◌≤◌}
use Rattle.small_marks.proofs.read_open_rows.Given as goal

abbrev pub invariant-loop-i : goal.invariant-loop-i
invariant-loop-i l = FewPending l.r × (l.i ≤ side_of l.version) × Walk (length l.initial.out)
    (data_bits (mask_bit (side_of l.version) l.mask) 0 (layout_of l.version) l.square) l.out
    (bits_from (mask_bit (side_of l.version) l.mask) (layout_of l.version) l.square (l.i * side_of l.version)) l.r

abbrev pub decreases-loop-i : goal.decreases-loop-i
decreases-loop-i l = side_of l.version - l.i
