-- `read_flags` meets its contract. Assumes nothing.
use Rattle.general.proofs.Names.{refl, ◌∙◌, ap, List, ◌++◌, ℕ, ◌/◌, lit<, arith, map, length-map, drop}
use Rattle.codewords.specs.Codewords.{to_stream}
use Rattle.codewords.proofs.Small.{zeros_below}
use Rattle.marks.proofs.Modules.{codewords_taken}
use Rattle.decoding.proofs.Readings.{halves_are, modules_and_kinds, enough_bits, flags_are}
use Rattle.decoding.proofs.read_flags.Goals as goal

pub read_flags-requires : goal.read_flags-requires
read_flags-requires c = let f = c.requires.0 in
    let d = c.requires.1 in
    record { modules_and_kinds = (modules_and_kinds c.args.m _ _ f d, λ i. omega (arith, zeros_below 1 3886 (lit< tt) i)); total_in_bounds = (c.total_codewords-total.ensures.1, enough_bits c.args.m _ _ f d _ refl _ c.total_codewords-total.result c.total_codewords-total.ensures.0 c.requires.2) }

pub returns : goal.returns
returns c =
    let sq = c.args.square.now in
    flags_are c.args.m _ _ c.requires.0 c.requires.1 (map (λ m. m / 2) sq) (length-map sq (λ m. m / 2)) _ _ _ (halves_are sq c.requires.0.modules) c.total_codewords-total.ensures.0
    (c.to_stream.ensures ∙ ap (λ (x : List ℕ). to_stream x ++ drop c.total_codewords-total.result c.args.flags.now)
    (codewords_taken _ _ _ _ c.read_flags.ensures))
