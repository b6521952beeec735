-- `bytes` meets its contract. Assumes nothing.
use Rattle.general.proofs.Names.{sym, ◌∙◌, arith, dec_lt}
use Rattle.general.proofs.Each.{each_start, each_next}
use Rattle.reed_solomon.proofs.Massey.{zeros}
use Rattle.remainder.specs.Words.{byte_at}
use Rattle.remainder.proofs.bytes.Goals as goal

pub loop-i-init : goal.loop-i-init
loop-i-init c = (each_start _ _, omega arith)

pub bounds-s-i : goal.bounds-s-i
bounds-s-i c = omega arith

pub loop-i-preserved : goal.loop-i-preserved
loop-i-preserved c = (each_next _ _ _ _ _ c.loop-i.invariant.0 (omega arith) c.byte_at.ensures, omega arith)

pub returns : goal.returns
returns c = (
  c.loop-i.invariant.0.size,
  λ i h. elim (dec_lt i c.kept-k.result) [
    | yes l ↦ c.loop-i.invariant.0.done i (omega arith)
    | no l ↦ c.loop-i.invariant.0.rest i (omega arith) ∙ zeros 32 i ∙ sym (c.kept-k.ensures.zeros i (omega arith) h)
  ],
)
