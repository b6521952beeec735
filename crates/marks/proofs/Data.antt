-- The data codewords of segments are bytes. Assumes nothing.
use Rattle.general.proofs.Names.{ℕ, ◌/◌, List, length}
use Rattle.bits.specs.Bits.{words}
use Rattle.codewords.proofs.Small.{Below, codewords_below}
use Rattle.segments.specs.Script.{Segment}
use Rattle.script.specs.Writer.{data_bytes}
use Rattle.script.proofs.Data.{padded_bits, padded_small}

pub data_below : (n : ℕ) (gs : List Segment) → Below 256 (data_bytes n gs)
unfolding words
data_below n gs = codewords_below (length (padded_bits n gs) / 8) (padded_bits n gs) (padded_small n gs)
