-- `step` meets its contract. Assumes nothing.
use Rattle.placement.proofs.Walk.{modules_small, modules_bits, lowest_size, unmasked_is, reads_push}
use Rattle.placement.proofs.Eights.{eight_zero}
use Rattle.general.proofs.Names.{sym, ◌∙◌, arith}
use Rattle.placement.proofs.step.Goals as goal

pub modules-x-requires : goal.modules-x-requires
modules-x-requires c = (c.requires.0.masked, c.requires.0.room, omega (arith, c.requires.0.size))

pub push-requires : goal.push-requires
push-requires c = (c.requires.1, omega arith, c.gather.ensures.small, omega (arith, c.requires.0.masked.side, lowest_size c.requires.0))

pub returns-then-k-eq0 : goal.returns-then-k-eq0
returns-then-k-eq0 c =
    let kinds = eight_zero _
    (sym c.eight-k.ensures ∙ c.if-k-eq0.true) in
    let bits = unmasked_is c.requires.0 _ c.modules-x.ensures
    c.gather.ensures in (
      c.push.ensures.0,
      omega arith,
      omega arith,
      reads_push c.requires.0.masked (lowest_size c.requires.0) 8 _ c.requires.2 kinds bits c.push.ensures.1
          c.push.ensures.2,
    )

pub advance-requires : goal.advance-requires
advance-requires c = (c.requires.1, omega arith, omega arith, omega (arith, c.requires.0.masked.side, lowest_size c.requires.0))

pub returns : goal.returns
returns c =
    let sq = c.args.square.now in
    let row = c.args.row.now in
    let at = c.args.r.column in
    let m = c.advance.ensures.1.go _ sq row _ (record {
      aligned = c.requires.0;
      bytes = λ i. omega (arith, c.type_inv.kinds i);
      kinds = c.eight-k.ensures;
      inside = c.requires.2;
      modules = c.modules-x.ensures;
      small = modules_small c.requires.0 at;
      bits = λ i h. modules_bits c.requires.0 at i;
    }) in
    (c.advance.ensures.0, m.0, m.1, m.2)
