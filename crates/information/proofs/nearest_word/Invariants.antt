use Rattle.general.proofs.Names.{◌-◌, ◌≤◌}
use Rattle.information.specs.Inner.{Found}
use Rattle.information.specs.Information.{word_distance, least_of}
use Rattle.information.proofs.nearest_word.Given as goal

abbrev pub invariant-loop-k : goal.invariant-loop-k
invariant-loop-k l = (l.k ≤ 15) × Found (word_distance l.version l.first l.second) (least_of (word_distance l.version l.first l.second) l.k) l.best

abbrev pub decreases-loop-k : goal.decreases-loop-k
decreases-loop-k l = 15 - l.k
