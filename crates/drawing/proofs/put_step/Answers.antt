-- `put_step` meets its contract. Assumes nothing.
use Rattle.drawing.proofs.Puts.{puts_eight, puts_skip}
use Rattle.placement.proofs.Runs.{passed}
use Rattle.general.proofs.Names.{refl, arith}
use Rattle.drawing.proofs.put_step.Goals as goal

pub put_eight-requires : goal.put_eight-requires
put_eight-requires c = let buffers = c.requires.0 in
    (omega arith, omega arith, buffers.room, buffers.masks, omega arith, buffers.few)

pub returns-then-p-codewords : goal.returns-then-p-codewords
returns-then-p-codewords c =
    let put = c.put_eight.ensures in (
      omega arith,
      omega arith,
      puts_eight c.requires.1 c.eight-k.ensures
          c.if-k-eq0.true put,
    )

pub put_one-requires : goal.put_one-requires
put_one-requires c = (c.requires.0, omega arith)

pub returns : goal.returns
returns c =
    let s = passed c.args.kinds.now _ (λ i. omega (arith, c.type_inv.kinds i)) c.eight-k.ensures
    (omega arith) c.if-k-eq0-2.false c.no_data.ensures in
    (omega arith, s.most, puts_skip s refl)
