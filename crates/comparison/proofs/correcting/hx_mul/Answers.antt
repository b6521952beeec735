-- `hx_mul` meets its contract. Assumes nothing.
use Rattle.general.proofs.Names.{ap, ◌∙◌, ℕ}
use Rattle.field.specs.Field.{mul}
use Rattle.comparison.proofs.correcting.hx_mul.Goals as goal

pub mul-requires : goal.mul-requires
mul-requires c = c.han_xin-field.ensures.0

pub returns : goal.returns
returns c = c.mul.ensures ∙ ap (λ (p : ℕ). mul p c.args.a c.args.b) c.han_xin-field.ensures.1
