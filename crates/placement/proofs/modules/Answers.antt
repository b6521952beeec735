-- `modules` meets its contract. Assumes nothing.
use Rattle.placement.specs.Walk.{behind}
use Rattle.placement.proofs.Eights.{xor_eight}
use Rattle.placement.proofs.Walk.{length_lowest}
use Rattle.general.proofs.Names.{ap₂, ◌∙◌, ◌+◌, arith, bit_xor}
use Rattle.placement.proofs.modules.Goals as goal

pub eight-requires-2 : goal.eight-requires-2
eight-requires-2 c = omega (arith, c.requires.0.side, length_lowest c.args.square.now)

pub returns : goal.returns
returns c =
    let sq = c.args.square.now in
    let row = c.args.row.now in
    let at = c.args.at in
    ap₂ bit_xor c.eight.ensures c.eight-2.ensures
    ∙ xor_eight (behind sq at) (behind row at) (λ k. omega (arith, c.type_inv.square (at + k))) (λ k. omega (arith, c.requires.0.masks (at + k)))
