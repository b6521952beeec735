use Rattle.general.proofs.Names.{[], ◌∷◌, ◌≤◌, ◌-◌}
use Rattle.field.specs.Table.{poly_of}
use Rattle.reed_solomon.specs.Inner.{advanced}
use Rattle.general.specs.Each.{Each}
use Rattle.reed_solomon.proofs.syndromes.advance_two.Given as goal

abbrev pub invariant-loop-j : goal.invariant-loop-j
invariant-loop-j l = Each (advanced (poly_of l.field) l.first (l.a ∷ l.b ∷ [])) l.j l.initial.s l.s × (l.j ≤ l.parity)

abbrev pub decreases-loop-j : goal.decreases-loop-j
decreases-loop-j l = l.parity - l.j
