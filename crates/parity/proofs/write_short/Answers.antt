-- `write_short` meets its contract: the plain division finds the block as it came. Assumes nothing.
use Rattle.general.proofs.Names.{ap, ◌∙◌, List, ℕ, ◌-◌, length}
use Rattle.parity.specs.Encode.{written_of}
use Rattle.parity.proofs.write_short.Goals as goal

pub returns-then-put_left : goal.returns-then-put_left
returns-then-put_left c = c.put_left.ensures.0 c.if-put_left.true

pub returns : goal.returns
returns c =
    c.write_plain.ensures
    ∙ ap (λ (x : List ℕ). written_of 0x163 1 (length x - c.args.k) x)
    (c.put_left.ensures.1 c.if-put_left.false)
