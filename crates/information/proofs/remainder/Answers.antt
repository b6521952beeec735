-- `remainder` meets its contract. Assumes nothing.
use Rattle.general.proofs.Names.{ℕ, ◌*◌, ◌/◌, ◌%◌, ◌<◌, ◌≡◌, sym, subst, arith, bit_xor, xor_lt}
use Rattle.information.proofs.Apart.{remainder_lt}
use Rattle.information.proofs.Products.{shown}
use Rattle.information.specs.Information.{remainder}
use Rattle.information.proofs.remainder.Goals as goal

pub generator_times-requires : goal.generator_times-requires
generator_times-requires c = xor_lt 4 c.args.nibble (c.args.r / 4096) c.requires.1 (omega arith)

pub returns : goal.returns
returns c =
    let e : bit_xor (c.args.r % 4096 * 16) c.generator_times.result ≡ remainder c.args.r c.args.nibble =
    shown c.args.r c.args.nibble c.generator_times.ensures in
    (e, subst (λ (n : ℕ). n < 65536) (sym e) (remainder_lt c.args.r c.args.nibble c.requires.0 c.requires.1))
