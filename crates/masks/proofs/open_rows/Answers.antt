-- `open_rows` meets its contract. Assumes nothing.
use Rattle.masks.proofs.OpenRows.{open_rows}
use Rattle.bits.specs.Bits.{low_bits}
use Rattle.codewords.specs.Codewords.{mask_at}
use mathlib.Core.Path.{refl}
use Rattle.masks.proofs.open_rows.Goals as goal

pub returns : goal.returns
unfolding low_bits mask_at
returns c = open_rows _ refl tt
