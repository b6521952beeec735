-- `write_numeric` meets its contract. Assumes nothing.
use Rattle.general.proofs.Names.{arith}
use Rattle.encoding.proofs.WordsLeft.{all_left, words_left_rest}
use Rattle.encoding.proofs.write_numeric.Goals as goal

pub overflow_mul-done : goal.overflow_mul-done
overflow_mul-done c = omega arith

pub slice_bounds-write_groups-count : goal.slice_bounds-write_groups-count
slice_bounds-write_groups-count c = omega arith

pub slice_bounds-write_groups-start : goal.slice_bounds-write_groups-start
slice_bounds-write_groups-start c = omega arith

pub slice_bounds-write_groups-end : goal.slice_bounds-write_groups-end
slice_bounds-write_groups-end c = omega arith

pub write_groups-requires : goal.write_groups-requires
write_groups-requires c = (omega arith, rw (all_left c.args.run.now _) (omega arith))

pub returns : goal.returns
returns c = words_left_rest c.write_sixes-at.ensures (rw (all_left c.args.run.now _) at c.write_groups.ensures)
