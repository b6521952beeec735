-- `log` meets its contract. Assumes nothing.
use Rattle.general.proofs.Names.{ap, ◌∙◌, ℕ, rules}
use Rattle.field.specs.Field.{power}
use Rattle.field.specs.Table.{poly_of}
use Rattle.field.proofs.Field.{power_log}
use Rattle.field.proofs.Entries.{the_field, log_pos}
use Rattle.field.proofs.log.Goals as goal

pub returns : goal.returns
returns c =
    let t = c.args.field.now in
    let a = c.args.a in
    let F = c.requires.field in (
      c.log_entry.ensures.2 c.requires.a_nonzero,
      ap (λ (n : ℕ). power (poly_of t) n)
          (c.log_entry.ensures.0 ∙ (log_pos t F a c.requires.a_nonzero (search rules)).0) ∙ power_log (poly_of t) (the_field t F) a c.requires.a_nonzero (search rules),
    )
