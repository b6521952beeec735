-- `mark_in` meets its contract. Assumes nothing.
use Rattle.reader.proofs.FirstRefusals.{nearest_mark, no_version, in_square}
use Rattle.reader.proofs.mark_in.Goals as goal

pub read_copy-first-requires : goal.read_copy-first-requires
read_copy-first-requires c = in_square _ _ c.args.square.now c.requires.0 c.requires.1 c.side-side.ensures c.requires.2

pub read_copy-second-requires : goal.read_copy-second-requires
read_copy-second-requires c = in_square _ _ c.args.square.now c.requires.0 c.requires.1 c.side-side.ensures c.requires.2

pub returns-in-Nearest : goal.returns-in-Nearest
returns-in-Nearest c =
    nearest_mark _ _ _ _ _ c.requires.3 c.side-side.ensures c.read_copy-first.ensures c.read_copy-second.ensures _ c.in-Nearest.level c.in-Nearest.mask c.in-Nearest.distance c.in-Nearest.is
    c.nearest_info.ensures

pub returns-in-NoVersion : goal.returns-in-NoVersion
returns-in-NoVersion c =
    absurd (no_version _ _ _ _ c.args.square.now c.requires.3 c.side-side.ensures c.read_copy-first.ensures c.read_copy-second.ensures _ c.requires.0 c.requires.1
    c.in-NoVersion.is c.nearest_info.ensures)
