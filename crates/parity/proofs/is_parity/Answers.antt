-- `is_parity` meets its contract. Assumes nothing.
use Rattle.general.proofs.Names.{◌≡◌, false≢true, arith, dec_lt}
use Rattle.parity.proofs.is_parity.Goals as goal

pub returns-then-parity-lt2 : goal.returns-then-parity-lt2
returns-then-parity-lt2 c = λ e. absurd (false≢true e)

pub returns-then-parity-gt32 : goal.returns-then-parity-gt32
returns-then-parity-gt32 c = λ e. absurd (false≢true e)

pub returns-then-parity-ne0 : goal.returns-then-parity-ne0
returns-then-parity-ne0 c = λ e. absurd (false≢true e)

pub loop-i-init : goal.loop-i-init
loop-i-init c = (omega arith, omega arith, λ k h l. absurd (omega arith))

pub returns-then-b-i-ne0 : goal.returns-then-b-i-ne0
returns-then-b-i-ne0 c = λ e. absurd (false≢true e)

pub loop-i-preserved : goal.loop-i-preserved
loop-i-preserved c = (
  omega arith,
  omega arith,
  λ k h l. elim (dec_lt k c.loop-i.i) [
    | yes q ↦ c.loop-i.invariant.2 k h q
    | no q ↦ let e : k ≡ c.loop-i.i = omega arith in rw e (omega arith)
  ],
)

pub returns : goal.returns
returns c = λ e. ((omega arith, omega arith, omega arith), λ i h l. c.loop-i.invariant.2 i h (omega arith))
