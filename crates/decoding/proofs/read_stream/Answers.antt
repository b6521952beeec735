-- `read_stream` meets its contract. Assumes nothing.
use Rattle.general.proofs.Names.{◌∙◌, sym, ap, List, ◌++◌, ℕ, ◌*◌, arith, drop}
use Rattle.codewords.specs.Codewords.{to_stream}
use Rattle.information.specs.Inner.{lowest}
use Rattle.placement.proofs.Walk.{length_lowest}
use Rattle.marks.proofs.Modules.{codewords_taken}
use Rattle.decoding.proofs.Readings.{lowest_is, modules_and_kinds, enough_bits, stream_is}
use Rattle.decoding.proofs.read_stream.Goals as goal

pub read_codewords-requires : goal.read_codewords-requires
read_codewords-requires c = let f = c.requires.0 in
    let d = c.requires.1 in
    let total = c.total_codewords-total.ensures in
    let side = c.side-side.ensures in
    let size = f.size ∙ sym (ap (λ (n : ℕ). n * n) side) in record { modules_and_kinds = (modules_and_kinds c.args.m _ _ f d, omega (arith, side), omega (arith, side, f.high), size); total_in_bounds = (total.1, enough_bits c.args.m _ _ f d _ (length_lowest c.args.square.now) _ c.total_codewords-total.result total.0 c.requires.2) }

pub returns : goal.returns
returns c =
    let sq = c.args.square.now in
    stream_is c.args.m _ _ c.requires.0 c.requires.1 (lowest sq) (length_lowest sq) _ _ _ _ (lowest_is sq c.requires.0.modules) c.side-side.ensures c.total_codewords-total.ensures.0
    (c.to_stream.ensures ∙ ap (λ (x : List ℕ). to_stream x ++ drop c.total_codewords-total.result c.args.stream.now)
    (codewords_taken _ _ _ _ c.read_codewords.ensures))
