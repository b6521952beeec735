-- `four_code` meets its contract. Assumes nothing.
use Rattle.script.specs.Writer.{four_code}
use Rattle.script.proofs.values.four_code.Goals as goal

pub returns : goal.returns
unfolding four_code
returns c =
    rw (
      c.saturating_sub-4.ensures,
      c.as_usize-4.ensures.0,
      c.saturating_sub-3.ensures,
      c.as_usize-3.ensures.0,
      c.saturating_sub-2.ensures,
      c.as_usize-2.ensures.0,
      c.saturating_sub.ensures,
      c.as_usize.ensures.0,
    )
