-- `write_checked` meets its contract: either buffer holds the layout. Assumes nothing.
use Rattle.general.proofs.Names.{◌≤◌, arith, mul-le-mul}
use Rattle.symbol.specs.Version.{side_of}
use Rattle.symbol.proofs.Coordinates.{square_le}
use Rattle.writer.proofs.write_checked.Goals as goal

pub write_in-requires : goal.write_in-requires
write_in-requires c =
    let low : side_of c.args.m.version ≤ 41 = omega (arith, c.if-m-le10.true) in
    (c.requires.0, c.requires.1, mul-le-mul low low, c.requires.2)

pub write_in-requires-2 : goal.write_in-requires-2
write_in-requires-2 c = (c.requires.0, c.requires.1, square_le (side_of c.args.m.version) (omega (arith, c.requires.0.high)), c.requires.2)
