-- `syndromes::syndromes` meets its contract: four bytes a time, or pair after pair and the rest. Assumes nothing.
use Rattle.general.proofs.Names.{◌∙◌, ◌+◌, arith}
use Rattle.field.proofs.Entries.{the_field}
use Rattle.reed_solomon.proofs.Values.{running_start, running_next, running_rest, all_advanced, cut_two}
use Rattle.reed_solomon.proofs.syndromes.syndromes.Goals as goal

pub low_syndromes-requires : goal.low_syndromes-requires
low_syndromes-requires c = record { field = c.requires.field; parity_bound = (omega arith, omega arith) }

pub shape_of-s-then-first-parity-le64 : goal.shape_of-s-then-first-parity-le64
shape_of-s-then-first-parity-le64 c = c.low_syndromes.ensures.size

pub returns-then-first-parity-le64 : goal.returns-then-first-parity-le64
returns-then-first-parity-le64 c =
    all_advanced _ (the_field _ c.requires.field) _ _ _ _ _ c.requires.s_len.0 c.requires.s_len.1 (λ i. omega (arith, c.type_inv.block i))
    c.low_syndromes.ensures

pub loop-i-init : goal.loop-i-init
loop-i-init c = (running_start _ _ _ _ _ _, omega arith)

pub advance_two-requires : goal.advance_two-requires
advance_two-requires c = record { field = c.requires.field; parity_bound = (c.requires.parity_bound, omega (arith, c.loop-i.invariant.0.size)) }

pub loop-i-preserved : goal.loop-i-preserved
loop-i-preserved c = (
  running_next _ _ _ _ _ _ _ _ _ _ _ c.loop-i.invariant.0 c.advance_two.ensures
      (cut_two _ (c.loop-i.i + c.loop-i.i) (c.loop-i.i + 1 + (c.loop-i.i + 1)) (omega arith) (omega arith)),
  omega arith,
)

pub advance_rest-requires : goal.advance_rest-requires
advance_rest-requires c = record { field = c.requires.field; parity_bound = (c.requires.parity_bound, omega (arith, c.loop-i.invariant.0.size), omega arith) }

pub shape_of-s : goal.shape_of-s
shape_of-s c = c.advance_rest.ensures.size ∙ c.loop-i.invariant.0.size

pub returns : goal.returns
returns c =
    all_advanced _ (the_field _ c.requires.field) _ _ _ _ _ c.requires.s_len.0 c.requires.s_len.1 (λ i. omega (arith, c.type_inv.block i))
    (running_rest _ _ _ _ _ _ _ _ _ c.loop-i.invariant.0 c.advance_rest.ensures)
