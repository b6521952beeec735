-- `hx_nearest_info` meets its contract. Assumes nothing.
use Rattle.general.proofs.Names.{ap, ◌∙◌}
use Rattle.information.specs.Information.{NearestAnswer}
use Rattle.comparison.proofs.marks.hx_nearest_info.Goals as goal

pub returns : goal.returns
returns c = let w = c.nearest.ensures in
    let e = c.nearest_info.ensures in (
      w.0 ∙ ap (λ (x : NearestAnswer). x.number) e,
      w.1 ∙ ap (λ (x : NearestAnswer). x.level) e,
      w.2 ∙ ap (λ (x : NearestAnswer). x.mask) e,
      w.3 ∙ ap (λ (x : NearestAnswer). x.distance) e,
    )
