use Rattle.general.proofs.Names.{◌≡◌, ◌≤◌, ◌-◌, length}
use Rattle.field.specs.Table.{poly_of}
use Rattle.reed_solomon.specs.Sum.{seq}
use Rattle.parity.specs.Inner.{Generator}
use Rattle.parity.proofs.generator.Given as goal

abbrev pub invariant-loop-n : goal.invariant-loop-n
invariant-loop-n l = (length l.g ≡ 256) × Generator (poly_of l.field) l.first l.n (seq l.g) × (l.n ≤ l.parity)

abbrev pub decreases-loop-n : goal.decreases-loop-n
decreases-loop-n l = l.parity - l.n
