-- `region_one` and `region_two` call each other at a switch; the bits left fall by twelve each time.
use Rattle.general.proofs.Names.{◌*◌, ◌-◌, length}
use Rattle.segments.proofs.+region_one_region_two.Given as goal

abbrev pub decreases-region_one : goal.decreases-region_one
decreases-region_one l = 8 * length l.s.now - l.from

abbrev pub decreases-region_two : goal.decreases-region_two
decreases-region_two l = 8 * length l.s.now - l.from
