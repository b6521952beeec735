-- `put_four` meets its contract. Assumes nothing.
use Rattle.general.proofs.Names.{refl}
use Rattle.symbol.proofs.Fours.{room, stored_four}
use Rattle.symbol.proofs.corners.put_four.Goals as goal

pub bounds-out-at-2 : goal.bounds-out-at-2
bounds-out-at-2 c = (room c.args.out.now c.args.at c.args.x c.requires _ 0 0).0

pub bounds-out-at-3 : goal.bounds-out-at-3
bounds-out-at-3 c = (room c.args.out.now c.args.at c.args.x c.requires _ _ 0).1

pub bounds-out-at-4 : goal.bounds-out-at-4
bounds-out-at-4 c = (room c.args.out.now c.args.at c.args.x c.requires _ _ _).2

pub returns : goal.returns
returns c = stored_four _ _ _ c.requires _ _ _ _ refl refl refl refl
