-- `hx_parity` meets its contract: one case of the answer after the other. Assumes nothing.
use Rattle.general.proofs.Names.{ap, sym, ◌∙◌}
use Rattle.parity.specs.declared.Encoded.{Encoded}
use Rattle.parity.specs.Encode.{encoding}
use Rattle.comparison.proofs.correcting.hx_parity.Goals as goal

pub returns-in-Written : goal.returns-in-Written
unfolding encoding
returns-in-Written c = sym (ap (λ (x : Encoded). encoding x c.encode.new.block) c.in-Written.is) ∙ c.encode.ensures

pub returns-in-Unfit : goal.returns-in-Unfit
unfolding encoding
returns-in-Unfit c = sym (ap (λ (x : Encoded). encoding x c.encode.new.block) c.in-Unfit.is) ∙ c.encode.ensures
