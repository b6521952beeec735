-- `double_byte` meets its contract. Assumes nothing.
use Rattle.general.proofs.Names.{◌≡◌, ◌∙◌, refl, ap₂, [], ◌∷◌, arith, ℕ, sets}
use Rattle.bits.proofs.Words.{WordAt}
use Rattle.segments.specs.Segments.{first_byte, second_byte, double_byte_of}
use Rattle.segments.proofs.Turns.{remains_start, remains_cut, remains_word, remains_lacks, remains_stop, remains_on, double_end}
use Rattle.segments.proofs.Turns.{double_lacks, double_pair}
use Rattle.segments.proofs.gb18030.double_byte.Goals as goal
use Rattle.segments.proofs.gb18030.double_byte.Goals.{In-Value}

-- what was read, where a word was read
word : (c : In-Value) → WordAt 15 c.loop-w.at c.in-Value.w c.args.s.now
word c = remains_word c.loop-w.invariant.1 c.read_bits-got.ensures (omega arith) c.in-Value.is

pub loop-w-init : goal.loop-w-init
loop-w-init c = (refl, remains_start (omega arith) (omega arith))

pub shape_of-out-in_default : goal.shape_of-out-in_default
shape_of-out-in_default c = c.loop-w.invariant.0

pub returns-in_default : goal.returns-in_default
unfolding double_byte_of
returns-in_default c = record { left = rw (remains_cut c.loop-w.invariant.1 c.read_bits-got.ensures c.in_default.is refl) refl; inside = tt }

pub overflow_add-at : goal.overflow_add-at
overflow_add-at c = omega arith

pub shape_of-out-then-w-eq32767 : goal.shape_of-out-then-w-eq32767
shape_of-out-then-w-eq32767 c = c.loop-w.invariant.0

pub returns-then-w-eq32767 : goal.returns-then-w-eq32767
returns-then-w-eq32767 c = let r = word (goal.at.returns-then-w-eq32767 c).In-Value in record { left = rw (remains_stop c.loop-w.invariant.1 r (double_end c.if-w-eq32767.true)) (refl, refl); inside = (omega arith, omega arith, omega arith, omega arith) }

pub shape_of-out-then-w-ge23940 : goal.shape_of-out-then-w-ge23940
shape_of-out-then-w-ge23940 c = c.loop-w.invariant.0

pub returns-then-w-ge23940 : goal.returns-then-w-ge23940
returns-then-w-ge23940 c = record { left = rw (remains_lacks c.loop-w.invariant.1 (word (goal.at.returns-then-w-ge23940 c).In-Value) (double_lacks c.if-w-eq32767.false c.if-w-ge23940.true)) refl; inside = tt }

pub put_pair-requires : goal.put_pair-requires
put_pair-requires c = (omega arith, c.first_byte.ensures.0, c.second_byte.ensures.0)

pub overflow_add-n : goal.overflow_add-n
overflow_add-n c = omega arith

pub loop-w-smaller : goal.loop-w-smaller
loop-w-smaller c = let m = (word (goal.at.loop-w-smaller c).In-Value).room in omega arith

pub loop-w-preserved : goal.loop-w-preserved
loop-w-preserved c =
    let w = c.in-Value.w in
    let e : c.put_pair.new.out ≡ sets c.loop-w.out c.loop-w.n (first_byte w ∷ second_byte w ∷ []) =
    c.put_pair.ensures
    ∙ ap₂ (λ (x y : ℕ). sets c.loop-w.out c.loop-w.n (x ∷ y ∷ [])) c.first_byte.ensures.1
    c.second_byte.ensures.1 in (
      c.put_pair.auto.out ∙ c.loop-w.invariant.0,
      remains_on c.loop-w.invariant.1 (word (goal.at.loop-w-preserved c).In-Value) (first_byte w ∷ second_byte w ∷ []) double_byte_of
          (double_pair c.if-w-eq32767.false c.if-w-ge23940.false) (omega arith) e,
    )
