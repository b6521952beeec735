-- `put_four` meets its contract. Assumes nothing.
use Rattle.general.proofs.Names.{refl, [], ◌∷◌, ◌+◌, ◌/◌, ◌%◌}
use Rattle.segments.specs.Segments.{four_bytes}
use Rattle.segments.proofs.Stores.{two_more}
use Rattle.segments.proofs.gb18030.put_four.Goals as goal

pub returns : goal.returns
unfolding four_bytes
returns c =
    two_more c.args.out.now c.put_pair.new.out _ ((0x81 + c.args.w % 1260 / 10) ∷ (0x30 + c.args.w % 10) ∷ []) _ (c.args.n + 2)
    (0x81 + c.args.w / 12600) (0x30 + c.args.w % 12600 / 1260) refl c.put_pair.ensures c.put_pair-2.ensures
