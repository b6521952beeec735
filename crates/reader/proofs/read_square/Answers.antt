-- `read_square` meets its contract: either buffer holds the layout. Assumes nothing.
use Rattle.general.proofs.Names.{arith}
use Rattle.symbol.specs.Version.{side_of}
use Rattle.symbol.proofs.Coordinates.{square_le}
use Rattle.reader.proofs.read_square.Goals as goal

pub read_square_in-requires-2 : goal.read_square_in-requires-2
read_square_in-requires-2 c = record { room = λ v h e. square_le (side_of v) (omega arith) }
