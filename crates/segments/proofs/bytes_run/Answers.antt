-- `bytes_run` meets its contract. Assumes nothing.
use Rattle.general.proofs.Names.{sub-zero, ◌∙◌, refl, [], ◌∷◌, arith, ◌-◌, ◌+◌}
use Rattle.bits.proofs.Words.{WordAt}
use Rattle.segments.specs.Positions.{bytes_run}
use Rattle.segments.proofs.Turns.{remains_start, remains_cut, remains_word, remains_on, bytes_run_cut, bytes_run_done, bytes_run_more}
use Rattle.segments.proofs.bytes_run.Goals as goal
use Rattle.segments.proofs.bytes_run.Goals.{In-Value}

-- what was read, where a word was read
word : (c : In-Value) → WordAt 8 c.loop-i.at c.in-Value.w c.args.s.now
word c = remains_word c.loop-i.invariant.2 c.read_bits-got.ensures (omega arith) c.in-Value.is

pub loop-i-init : goal.loop-i-init
loop-i-init c = (refl, omega arith, simp sub-zero (remains_start (omega arith) (omega arith)))

pub shape_of-out-in_default : goal.shape_of-out-in_default
shape_of-out-in_default c = c.loop-i.invariant.0

pub returns-in_default : goal.returns-in_default
returns-in_default c = let k = c.args.k in
    record { left = rw (remains_cut c.loop-i.invariant.2 c.read_bits-got.ensures c.in_default.is (bytes_run_cut k c.loop-i.i (omega arith))) refl; inside = tt }

pub put-requires : goal.put-requires
put-requires c = (word (goal.at.put-requires c).In-Value).small

pub overflow_add-at : goal.overflow_add-at
overflow_add-at c = omega arith

pub overflow_add-n : goal.overflow_add-n
overflow_add-n c = omega arith

pub overflow_add-i : goal.overflow_add-i
overflow_add-i c = omega arith

pub loop-i-smaller : goal.loop-i-smaller
loop-i-smaller c = let m = (word (goal.at.loop-i-smaller c).In-Value).room in omega arith

pub loop-i-preserved : goal.loop-i-preserved
loop-i-preserved c =
    let k = c.args.k in
    let w = c.in-Value.w in (
      c.put.auto.out ∙ c.loop-i.invariant.0,
      omega arith,
      remains_on c.loop-i.invariant.2 (word (goal.at.loop-i-preserved c).In-Value) (w ∷ []) (bytes_run (k - (c.loop-i.i + 1)))
          (bytes_run_more w k c.loop-i.i (omega arith)) (omega arith) c.put.ensures,
    )

pub shape_of-out : goal.shape_of-out
shape_of-out c = c.loop-i.invariant.0

pub returns : goal.returns
returns c = record { left = rw (bytes_run_done c.args.k c.loop-i.i c.loop-i.invariant.2 (omega arith)) (refl, refl); inside = (omega arith, omega arith, omega arith, omega arith) }
