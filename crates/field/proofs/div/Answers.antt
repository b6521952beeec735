-- `div` meets its contract. Assumes nothing.
use Rattle.general.proofs.Names.{◌∙◌, ap, ap₂, ℕ, ◌+◌, ◌-◌, get_or, arith, rules}
use Rattle.field.specs.Field.{mul}
use Rattle.field.specs.Table.{poly_of}
use Rattle.field.proofs.Entries.{quotient_at}
use Rattle.field.proofs.div.Goals as goal

pub overflow_sub-log_entry : goal.overflow_sub-log_entry
overflow_sub-log_entry c = omega (arith, c.log_entry-2.ensures.2 c.requires.b_nonzero)

pub returns : goal.returns
returns c = ap (λ (x : ℕ). mul (poly_of c.args.field.now) x c.args.b)
    (c.power_entry.ensures
    ∙ ap₂ (λ (x y : ℕ). get_or c.args.field.now (256 + (x + (255 - y))) 0)
    c.log_entry.ensures.0 c.log_entry-2.ensures.0)
    ∙ quotient_at c.args.field.now c.requires.field c.args.a
    c.args.b (search rules) c.requires.b_nonzero (search rules)
