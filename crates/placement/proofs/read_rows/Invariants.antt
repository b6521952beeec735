use Rattle.masks.specs.Columns.{Row}
use Rattle.placement.specs.Walk.{bits_from, FewPending, Walk}
use Rattle.codewords.specs.Codewords.{mask_bit, data_bits}
use Rattle.general.proofs.Names.{length, ◌-◌, ◌*◌, ◌≤◌}
use Rattle.information.specs.Inner.{lowest}
use Rattle.placement.proofs.read_rows.Given as goal

abbrev pub invariant-loop-i : goal.invariant-loop-i
invariant-loop-i l = let m = mask_bit l.side l.mask in
    Row l.mask l.row × FewPending l.r × (l.i ≤ l.side) × Walk (length l.initial.out) (data_bits m 0 l.kinds (lowest l.square)) l.out (bits_from m l.kinds (lowest l.square) (l.i * l.side)) l.r

abbrev pub decreases-loop-i : goal.decreases-loop-i
decreases-loop-i l = l.side - l.i
