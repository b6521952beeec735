-- `put_left` meets its contract: what is left stands behind the data where it passes the test, and nothing changes where it does not.
-- Assumes nothing.
use Rattle.general.proofs.Names.{refl, sym, false≢true, arith}
use Rattle.parity.proofs.Left.{left_written}
use Rattle.parity.proofs.put_left.Goals as goal

pub put_behind-requires : goal.put_behind-requires
put_behind-requires c =
    let fits = c.is_parity.ensures c.if-is_parity.true in
    (c.requires.k_in_bounds.0, omega arith, c.bytes-b.ensures.0)

pub returns-then-is_parity : goal.returns-then-is_parity
returns-then-is_parity c =
    let fits = c.is_parity.ensures c.if-is_parity.true in (
      λ _. left_written _ _ _ _ _ (λ i. omega (
        arith,
        c.slice_known-1.given
            i,
      )) c.requires.k_in_bounds.1 c.requires.k_in_bounds.0 fits.0 c.requires.leaves
          c.bytes-b.ensures.0 c.bytes-b.ensures.1 fits.1 c.put_behind.ensures,
      λ e. absurd (false≢true (sym e)),
    )

pub returns : goal.returns
returns c = (λ e. absurd (false≢true e), λ _. refl)
