-- `hx_power` meets its contract: the powers come round after 255. Assumes nothing.
use Rattle.general.proofs.Names.{◌≡◌, ap, sym, ◌∙◌, ℕ, ◌+◌, ◌*◌, ◌/◌, ◌%◌, arith}
use Rattle.field.specs.Field.{power}
use Rattle.field.proofs.Field.{primitive, power_period}
use Rattle.field.proofs.Instances.{primitive_163}
use Rattle.comparison.proofs.correcting.hx_power.Goals as goal

pub power-requires : goal.power-requires
power-requires c = record { field = c.han_xin-field.ensures.0; n_bound = omega arith }

pub returns : goal.returns
returns c =
    c.power.ensures ∙ ap (λ (p : ℕ). power p (c.args.n % 255)) c.han_xin-field.ensures.1
    ∙ sym (power_period 0x163 (primitive 0x163 primitive_163) (c.args.n / 255) (c.args.n % 255))
    ∙ (let e : 255 * (c.args.n / 255) + c.args.n % 255 ≡ c.args.n = omega arith in ap (power 0x163) e)
