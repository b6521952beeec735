-- `syndromes` meets its contract. Assumes nothing.
use Rattle.general.proofs.Names.{sym, arith, length-take-le}
use Rattle.field.proofs.Entries.{the_field}
use Rattle.remainder.proofs.Lowered.{syndromes_left}
use Rattle.remainder.proofs.syndromes.Goals as goal

pub slice_bounds-syndromes-end : goal.slice_bounds-syndromes-end
slice_bounds-syndromes-end c = sym (length-take-le _ _ (omega arith))

pub returns : goal.returns
returns c =
    λ block R. syndromes_left _ (the_field _ c.requires.field) _ _ _ block _ _ _ _ R c.kept-k.ensures c.bytes-b.ensures.0 c.bytes-b.ensures.1
    c.syndromes.ensures c.lower.ensures
