-- `hx_info_bits` meets its contract. Assumes nothing.
use Rattle.general.proofs.Names.{ap, ◌∙◌}
use Rattle.information.specs.Information.{InfoAnswer}
use Rattle.comparison.proofs.marks.hx_info_bits.Goals as goal

pub returns : goal.returns
returns c = let w = c.word.ensures in
    let e = c.info_bits.ensures in
    (w.0 ∙ ap (λ (x : InfoAnswer). x.number) e, w.1 ∙ ap (λ (x : InfoAnswer). x.word) e)
