-- `write_with` meets its contract: the table is that of the parity, and the plain division finds the block as it came. Assumes nothing.
use Rattle.general.proofs.Names.{ap, ◌∙◌, List, ℕ, ◌-◌, length}
use Rattle.parity.specs.Encode.{written_of}
use Rattle.parity.proofs.write_with.Goals as goal

pub put_left-requires : goal.put_left-requires
put_left-requires c = record { k_in_bounds = (c.requires.0, c.requires.1, c.requires.3); leaves = c.remainder-left.ensures _ c.requires.2 }

pub returns-then-put_left : goal.returns-then-put_left
returns-then-put_left c = c.put_left.ensures.0 c.if-put_left.true

pub returns : goal.returns
returns c =
    c.write_plain.ensures
    ∙ ap (λ (x : List ℕ). written_of 0x163 1 (length x - c.args.k) x)
    (c.put_left.ensures.1 c.if-put_left.false)
