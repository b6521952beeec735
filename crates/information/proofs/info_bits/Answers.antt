-- `info_bits` meets its contract. Assumes nothing.
use Rattle.general.proofs.Names.{ap, sym, ◌∙◌, ◌≤◌, arith, not-true, not-false}
use Rattle.information.specs.Information.{word_of, info_bits, info_of}
use Rattle.information.proofs.info_bits.Goals as goal
use Rattle.information.proofs.info_bits.Goals.{Else-not-is_info}

within : (c : Else-not-is_info) → (c.args.version ≤ 84) × (c.args.level ≤ 3) × (c.args.mask ≤ 3)
within c = c.is_info.ensures.1 (not-false _ c.if-not-is_info.false-raw)

pub returns-then-not-is_info : goal.returns-then-not-is_info
unfolding info_of
returns-then-not-is_info c = simp (sym c.is_info.ensures.0 ∙ not-true _ c.if-not-is_info.true-raw)

pub overflow_add-version : goal.overflow_add-version
overflow_add-version c = omega (arith, within (goal.at.overflow_add-version c).Else-not-is_info)

pub overflow_mul-version : goal.overflow_mul-version
overflow_mul-version c = omega (arith, within (goal.at.overflow_mul-version c).Else-not-is_info)

pub overflow_mul-level : goal.overflow_mul-level
overflow_mul-level c = omega (arith, within (goal.at.overflow_mul-level c).Else-not-is_info)

pub overflow_add-version-2 : goal.overflow_add-version-2
overflow_add-version-2 c = omega (arith, within (goal.at.overflow_add-version-2 c).Else-not-is_info)

pub overflow_add-version-3 : goal.overflow_add-version-3
overflow_add-version-3 c = omega (arith, within (goal.at.overflow_add-version-3 c).Else-not-is_info)

pub word_of-requires : goal.word_of-requires
word_of-requires c = omega (arith, within (goal.at.word_of-requires c).Else-not-is_info)

pub returns : goal.returns
unfolding info_of info_bits
returns c = simp (sym c.is_info.ensures.0 ∙ not-false _ c.if-not-is_info.false-raw)
    (λ i. record { number = 0; word = (c.word_of.ensures ∙ ap word_of c.as_u64-d.ensures) i })
