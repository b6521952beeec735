-- `errors::put` meets its contract. Assumes nothing.
use Rattle.general.proofs.Names.{length-set, arith}
use Rattle.reed_solomon.proofs.errors.put.Goals as goal

pub bounds-e-d-2 : goal.bounds-e-d-2
bounds-e-d-2 c = simp length-set (omega arith)

pub bounds-e-d-3 : goal.bounds-e-d-3
bounds-e-d-3 c = simp length-set (omega arith)

pub bounds-e-d-4 : goal.bounds-e-d-4
bounds-e-d-4 c = simp length-set (omega arith)
