-- `same_region` meets its contract. Assumes nothing.
use Rattle.general.proofs.Names.{◌≡◌, ◌∙◌, refl, not, [], ◌∷◌, arith, sets}
use Rattle.bits.proofs.Words.{WordAt}
use Rattle.segments.specs.Segments.{high_of, low_of, region_of}
use Rattle.segments.proofs.Turns.{remains_start, remains_cut, remains_word, remains_lacks, remains_stop, remains_on, remains_none}
use Rattle.segments.proofs.Turns.{region_end, region_switch, region_lacks, region_pair}
use Rattle.segments.proofs.same_region.Goals as goal
use Rattle.segments.proofs.same_region.Goals.{In-Value}

-- what was read, where a word was read
word : (c : In-Value) → WordAt 12 c.loop-w.at c.in-Value.w c.args.s.now
word c = remains_word c.loop-w.invariant.1 c.read_bits-got.ensures (omega arith) c.in-Value.is

pub loop-w-init : goal.loop-w-init
loop-w-init c = (refl, remains_start (omega arith) (omega arith))

pub shape_of-out-in_default : goal.shape_of-out-in_default
shape_of-out-in_default c = c.loop-w.invariant.0

pub returns-in_default : goal.returns-in_default
unfolding region_of
returns-in_default c = record { cases = remains_cut c.loop-w.invariant.1 c.read_bits-got.ensures c.in_default.is refl }

pub overflow_add-at : goal.overflow_add-at
overflow_add-at c = omega arith

pub shape_of-out-then-w-eq4095 : goal.shape_of-out-then-w-eq4095
shape_of-out-then-w-eq4095 c = c.loop-w.invariant.0

pub returns-then-w-eq4095 : goal.returns-then-w-eq4095
returns-then-w-eq4095 c =
    let one = c.args.one in
    let r = word (goal.at.returns-then-w-eq4095 c).In-Value in
    let e = remains_stop c.loop-w.invariant.1 r (region_end one c.if-w-eq4095.true) in
    record { cases = (e, (omega arith, omega arith, omega arith, omega arith)) }

pub shape_of-out-then-w-eq4094 : goal.shape_of-out-then-w-eq4094
shape_of-out-then-w-eq4094 c = c.loop-w.invariant.0

pub returns-then-w-eq4094 : goal.returns-then-w-eq4094
returns-then-w-eq4094 c =
    let one = c.args.one in
    let r = word (goal.at.returns-then-w-eq4094 c).In-Value in
    let e = remains_none c.loop-w.invariant.1 r (region_of (not one)) (region_switch one c.if-w-eq4095.false c.if-w-eq4094.true) in
    record { cases = (e.same, omega arith, (omega arith, omega arith, omega arith, omega arith)) }

pub shape_of-out-then-w-region_size : goal.shape_of-out-then-w-region_size
shape_of-out-then-w-region_size c = c.loop-w.invariant.0

pub returns-then-w-region_size : goal.returns-then-w-region_size
returns-then-w-region_size c =
    let one = c.args.one in
    record {
      cases =
          remains_lacks c.loop-w.invariant.1 (word (goal.at.returns-then-w-region_size c).In-Value) (region_lacks one c.if-w-eq4095.false c.if-w-eq4094.false (omega arith));
    }

pub pair_of-pair-requires : goal.pair_of-pair-requires
pair_of-pair-requires c = omega arith

pub put_pair-requires : goal.put_pair-requires
put_pair-requires c = (omega arith, c.pair_of-pair.ensures.0, c.pair_of-pair.ensures.1)

pub overflow_add-n : goal.overflow_add-n
overflow_add-n c = omega arith

pub loop-w-smaller : goal.loop-w-smaller
loop-w-smaller c = let m = (word (goal.at.loop-w-smaller c).In-Value).room in omega arith

pub loop-w-preserved : goal.loop-w-preserved
loop-w-preserved c =
    let w = c.in-Value.w in
    let one = c.args.one in
    let bytes = c.pair_of-pair.ensures in
    let e : c.put_pair.new.out ≡ sets c.loop-w.out c.loop-w.n (high_of one w ∷ low_of one w ∷ []) = rw (← bytes.2, ← bytes.3) c.put_pair.ensures in
    let on = region_pair one c.if-w-eq4095.false c.if-w-eq4094.false (omega arith) in
    (c.put_pair.auto.out ∙ c.loop-w.invariant.0, remains_on c.loop-w.invariant.1 (word (goal.at.loop-w-preserved c).In-Value) (high_of one w ∷ low_of one w ∷ []) (region_of one) on (omega arith) e)
