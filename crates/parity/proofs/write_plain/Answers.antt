-- `write_plain` meets its contract: the generator is that of the field and of the parity. Assumes nothing.
use Rattle.general.proofs.Names.{ap, ◌∙◌, ℕ, ◌-◌, arith, length}
use Rattle.parity.specs.Encode.{written_of}
use Rattle.parity.proofs.write_plain.Goals as goal

pub write_parity-requires : goal.write_parity-requires
write_parity-requires c = let g = c.generator-g.ensures in
    record { field = c.han_xin-field.ensures.0; k_in_bounds = (c.requires.0, c.requires.1, omega arith); monic = g.1.monic }

pub returns : goal.returns
returns c =
    c.write_parity.ensures 1 c.generator-g.ensures.1
    ∙ ap (λ (p : ℕ). written_of p 1 (length c.args.block.now - c.args.k) c.args.block.now)
    c.han_xin-field.ensures.1
