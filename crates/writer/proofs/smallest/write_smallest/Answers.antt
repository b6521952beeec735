-- `write_smallest` meets its contract: the first refusals, and else the lowest version. Assumes nothing.
use Rattle.general.proofs.Names.{◌≡◌, ◌≢◌, sym, ◌∙◌, ◌≤◌, arith, not-true, not-false}
use Rattle.script.specs.declared.Check.{Check}
use Rattle.script.specs.declared.Check.TheVariants.{Malformed, Lacking, Empty}
use Rattle.script.specs.Inner.{check_of}
use Rattle.marks.specs.Smallest.{smallest, smallest_of}
use Rattle.writer.proofs.Refusals.{answered}
use Rattle.writer.proofs.Fronts.{ranges_refused, check_refused}
use Rattle.writer.proofs.smallest.write_smallest.Goals as goal
use Rattle.writer.proofs.smallest.write_smallest.Goals.{Else-not-is_info}

ranged : (c : Else-not-is_info) → (c.args.level ≤ 3) × (c.args.mask ≤ 3)
ranged c = let R = c.is_info.ensures.1 (not-false _ c.if-not-is_info.false-raw) in (R.1, R.2)

-- the check answers k and refuses script and payload
refuses : (c : Else-not-is_info) (x k : Check)
    →
    answered k ≢ 0 → x ≡ k → x ≡ check_of c.args.script.now c.args.payload.now
    → smallest (answered k) 0 c.args.square.now ≡ smallest_of c.args.level c.args.mask c.args.script.now c.args.payload.now c.args.square.now
refuses c x k = check_refused _ _ _ _ _ (ranged c).0 (ranged c).1 x k

pub returns-then-not-is_info : goal.returns-then-not-is_info
returns-then-not-is_info c =
    rw c.refused.ensures
    (ranges_refused _ _ c.args.script.now c.args.payload.now c.args.square.now _ c.is_info.ensures.0
    (not-true _ c.if-not-is_info.true-raw))

pub write_lowest-requires : goal.write_lowest-requires
write_lowest-requires c =
    let R = ranged (goal.at.write_lowest-requires c).Else-not-is_info in
    (R.0, R.1, sym c.in-Bits.is ∙ c.check_script.ensures)

pub returns-in-Malformed : goal.returns-in-Malformed
returns-in-Malformed c = rw c.refused-in-Malformed.ensures (refuses (goal.at.returns-in-Malformed c).Else-not-is_info _ Malformed (λ z. omega arith) c.in-Malformed.is c.check_script.ensures)

pub returns-in-Lacking : goal.returns-in-Lacking
returns-in-Lacking c = rw c.refused-in-Lacking.ensures (refuses (goal.at.returns-in-Lacking c).Else-not-is_info _ Lacking (λ z. omega arith) c.in-Lacking.is c.check_script.ensures)

pub returns-in-Empty : goal.returns-in-Empty
returns-in-Empty c = rw c.refused-in-Empty.ensures (refuses (goal.at.returns-in-Empty c).Else-not-is_info _ Empty (λ z. omega arith) c.in-Empty.is c.check_script.ensures)
