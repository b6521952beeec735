-- `put_pair` meets its contract. Assumes nothing.
use Rattle.general.proofs.Names.{refl, [], ◌∷◌, ◌+◌}
use Rattle.segments.proofs.Stores.{one_more}
use Rattle.segments.proofs.put_pair.Goals as goal

pub returns : goal.returns
returns c = one_more c.args.out.now c.put.new.out _ (c.args.b ∷ []) _ (c.args.n + 1) _ refl c.put.ensures c.put-2.ensures
