-- `hx_div` meets its contract. Assumes nothing.
use Rattle.general.proofs.Names.{ap, sym, ◌∙◌, ℕ, arith}
use Rattle.field.specs.Field.{mul}
use Rattle.comparison.proofs.correcting.hx_div.Goals as goal

pub div-requires : goal.div-requires
div-requires c = record { field = c.han_xin-field.ensures.0; b_nonzero = omega (arith, c.if-b-eq0.false) }

pub returns : goal.returns
returns c =
    record {
      some = λ h. ap (λ (p : ℕ). mul p c.div.result c.args.b) (sym c.han_xin-field.ensures.1) ∙ c.div.ensures;
      none = λ z. absurd (c.if-b-eq0.false z);
    }
