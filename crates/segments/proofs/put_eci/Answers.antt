-- `put_eci` meets its contract. Assumes nothing.
use Rattle.general.proofs.Names.{refl, [], ◌∷◌, ◌+◌, ◌/◌, ◌%◌}
use Rattle.segments.proofs.Stores.{two_more}
use Rattle.segments.proofs.put_eci.Goals as goal

pub returns : goal.returns
returns c =
    two_more c.args.script.now c.put_pair.new.out c.put_pair-2.new.out (c.args.v / 256 % 256 ∷ c.args.v % 256 ∷ []) c.args.m (c.args.m + 2) 8 (c.args.v / 65536) refl
    c.put_pair.ensures c.put_pair-2.ensures
