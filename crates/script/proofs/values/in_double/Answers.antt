-- `in_double` meets its contract. Assumes nothing.
use Rattle.general.proofs.Names.{lt-ltb, le-ltb, eq-eqb, ne_eqb}
use Rattle.script.specs.Writer.{in_double}
use Rattle.script.proofs.values.in_double.Goals as goal

pub returns-then-first_byte-a : goal.returns-then-first_byte-a
unfolding in_double
returns-then-first_byte-a c =
    rw (
      ← c.double_code-c.ensures,
      ← c.first_byte.ensures.1,
      ← c.second_byte.ensures.1,
      lt-ltb _ _ c.if-c-lt23940.true,
      eq-eqb _ _ c.if-first_byte-a.true,
    )

pub returns-else-first_byte-a : goal.returns-else-first_byte-a
unfolding in_double
returns-else-first_byte-a c = rw (← c.double_code-c.ensures, ← c.first_byte.ensures.1, lt-ltb _ _ c.if-c-lt23940.true, ne_eqb _ _ c.if-first_byte-a.false)

pub returns-else-c-lt23940 : goal.returns-else-c-lt23940
unfolding in_double
returns-else-c-lt23940 c = rw (← c.double_code-c.ensures, le-ltb _ _ c.if-c-lt23940.false)
