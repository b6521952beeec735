-- `encode` meets its contract: the table is that of 163 hex. Assumes nothing.
use Rattle.general.proofs.Names.{ap, ◌∙◌, ℕ, arith}
use Rattle.parity.specs.Encode.{encode_of}
use Rattle.parity.proofs.encode.Goals as goal

pub encode_over-requires : goal.encode_over-requires
encode_over-requires c = record { field = c.han_xin-field.ensures.0; first_bound = omega arith }

pub returns : goal.returns
returns c =
    c.encode_over.ensures
    ∙ ap (λ (p : ℕ). encode_of p 1 c.args.parity c.args.block.now) c.han_xin-field.ensures.1
