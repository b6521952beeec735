use Rattle.masks.specs.Columns.{Row}
use Rattle.drawing.specs.Puts.{Placing}
use Rattle.bits.specs.Bits.{bits_of}
use Rattle.symbol.specs.Layout.{data_modules}
use Rattle.codewords.specs.Codewords.{mask_bit, placed}
use Rattle.general.proofs.Names.{drop, ◌-◌, ◌*◌, ◌≤◌}
use Rattle.drawing.proofs.place_rows.Given as goal

abbrev pub invariant-loop-i : goal.invariant-loop-i
invariant-loop-i l = let m = mask_bit l.side l.mask in
    let ds = bits_of l.codewords in
    Row l.mask l.row × (l.i ≤ l.side) × Placing m l.kinds (placed m 0 l.kinds ds) (drop (data_modules l.kinds) ds) l.square (drop l.bit ds) (l.i * l.side)

abbrev pub decreases-loop-i : goal.decreases-loop-i
decreases-loop-i l = l.side - l.i
