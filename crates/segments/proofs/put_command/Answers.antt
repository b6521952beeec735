-- `put_command` meets its contract. Assumes nothing.
use Rattle.general.proofs.Names.{refl, [], ◌∷◌, ◌+◌, ◌/◌, ◌%◌, arith, eq-eqb, ne_eqb}
use Rattle.segments.proofs.Stores.{one_more}
use Rattle.segments.proofs.put_command.Goals as goal

pub returns-then-mode-eq-FOUR_BYTE : goal.returns-then-mode-eq-FOUR_BYTE
returns-then-mode-eq-FOUR_BYTE c = rw (eq-eqb c.args.mode 7 c.if-mode-eq-FOUR_BYTE.true) (refl, c.put.ensures)

pub put_pair-requires : goal.put_pair-requires
put_pair-requires c = (omega arith, omega arith, omega arith)

pub returns : goal.returns
returns c =
    rw (ne_eqb c.args.mode 7 c.if-mode-eq-FOUR_BYTE.false) (
      refl,
      one_more c.args.script.now _ c.put_pair.new.out (c.args.n / 256 ∷ c.args.n % 256 ∷ []) _ (c.args.m + 1) c.args.mode refl
          c.put-2.ensures c.put_pair.ensures,
    )
