-- `correct` meets its contract: a new table is all zeros. Assumes nothing.
use Rattle.general.proofs.Names.{refl}
use Rattle.reed_solomon.proofs.Massey.{zeros}
use Rattle.erasure_corrector.proofs.correct.Goals as goal

pub prepare-requires : goal.prepare-requires
prepare-requires c = (refl, zeros 512)
