-- `correct_with` meets its contract: what is left of the block tells of it. Assumes nothing.
use Rattle.general.proofs.Names.{arith}
use Rattle.corrector.proofs.Repairs.{whole_left}
use Rattle.corrector.proofs.correct_with.Goals as goal

pub correct_left-requires : goal.correct_left-requires
correct_left-requires c = let fits = c.is_untabled.ensures c.if-is_untabled.false in
    record { tabled = fits; remains = whole_left (c.remainder-left.ensures _ c.requires) fits.0 (omega arith) }
