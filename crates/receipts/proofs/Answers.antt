-- The answer for a square by the answer for its data, and by their outcome. Assumes nothing.
use Rattle.general.proofs.Names.{◌≡◌, sym, ap, subst, ◌∙◌, inl, inr, Bool, true, false, cond, List, ◌++◌, ℕ, ◌+◌, ◌-◌, ◌≤◌, ◌<◌, ltb, eqb, length, take}
use Rattle.general.proofs.Names.{drop, length-append, length-drop, take_at, arith}
use Rattle.segments.specs.declared.Answer.{Answer}
use Rattle.segments.specs.declared.Answer.TheVariants.{Read}
use Rattle.segments.specs.Script.{Segment, payload_of, script_of}
use Rattle.segments.specs.Segments.{segments_of}
use Rattle.segments.specs.FromData.{DataOutcome, data_outcome, refused_data, in_buffers, is_broken, from_data}
use Rattle.segments.proofs.Theorems.{room_enough}
use Rattle.receipts.specs.declared.SquareAnswer.{SquareAnswer}
use Rattle.receipts.specs.Inner.{Refuses, FromAnswer, FromOutcome}

pub from_answer_read : (a : Answer) (p s n : ℕ) (t : SquareAnswer) → a ≡ Read p s → t.number ≡ 0 → t.count ≡ n → t.payload ≡ p → t.script ≡ s → FromAnswer a n t
from_answer_read a p s n t e f g h k =
    subst (λ (b : Answer). FromAnswer b n t) (sym e)
    (record {
      is = λ x y i. record { number = sym f i; payload_length = sym h i; script_length = sym k i; payload = x; script = y };
      count = inr g;
      zero = λ z. g;
    })

pub from_answer_refused : (k : ℕ) (b a : Answer) (n : ℕ) (t : SquareAnswer) → a ≡ b → ((p s : List ℕ) → data_outcome b p s ≡ refused_data k p s) → (k ≡ 0 → ⊥)
    → Refuses k t → FromAnswer a n t
from_answer_refused k b a n t e f d R =
    subst (λ (b : Answer). FromAnswer b n t) (sym e)
    (record {
      is = λ x y. f x y
          ∙ (λ i. record { number = sym R.number i; payload_length = sym R.payload i; script_length = sym R.script i; payload = x; script = y });
      count = inl R.count;
      zero = λ z. absurd (d (sym R.number ∙ z));
    })

-- the numbers of an outcome are small
pub record SmallOutcome (o : DataOutcome) : Type 0 where
  pub number : o.number < 256
  pub payload : o.payload_length < 65536
  pub script : o.script_length < 65536

small_refused : (k : ℕ) (p c : List ℕ) → k < 256 → SmallOutcome (refused_data k p c)
small_refused k p c h = record { number = h; payload = omega arith; script = omega arith }

small_if : (b : Bool) (o q : DataOutcome) → SmallOutcome o → SmallOutcome q → SmallOutcome (cond b o q)
small_if true o q l m = l
small_if false o q l m = m

small_in_buffers : (gs : List Segment) (p c : List ℕ) → length (payload_of gs) ≤ 12288 → length (script_of gs) ≤ 12288 → SmallOutcome (in_buffers gs p c)
small_in_buffers gs p c h k =
    small_if (eqb (length (payload_of gs)) 0) _ _ (small_refused 8 p c (omega arith))
    (small_if (ltb (length p) (length (payload_of gs))) _ _ (small_refused 9 p c (omega arith))
    (small_if (ltb (length c) (length (script_of gs))) _ _ (small_refused 10 p c (omega arith))
    (record { number = omega arith; payload = omega arith; script = omega arith })))

pub from_data_small : (s p c : List ℕ) → length s ≤ 3886 → SmallOutcome (from_data s p c)
from_data_small s p c h =
    small_if (ltb 3886 (length s)) _ _ (small_refused 2 p c (omega arith))
    (small_if (is_broken (segments_of s).end) _ _ (small_refused 7 p c (omega arith))
    (small_in_buffers (segments_of s).segments p c (room_enough s h).0 (room_enough s h).1))

-- an answer by that for the data is one by their outcome
pub from_outcome : (n : ℕ) (a : Answer) (t : SquareAnswer) (d p₀ s₀ p s : List ℕ) (m : ℕ) → n < 65536 → length d ≡ m → m ≤ 3886 → FromAnswer a n t → data_outcome a p s ≡ from_data d p₀ s₀
    → FromOutcome n (from_data d p₀ s₀) t p s
from_outcome n a t d p₀ s₀ p s m h k k' A e =
    let q = sym e ∙ A.is p s in
    let l = subst SmallOutcome q (from_data_small d p₀ s₀ (omega arith)) in
    record {
      outcome = q;
      count = A.zero;
      small = record {
        number = l.number;
        count = elim A.count [ inl z ↦ omega (arith, z) | inr z ↦ omega (arith, z) ];
        payload = l.payload;
        script = l.script;
      };
    }

-- n data at the front of a buffer
pub gathered : (n : ℕ) (d was buffer : List ℕ) → buffer ≡ d ++ drop n was → n ≤ length was → length buffer ≡ length was → (length d ≡ n) × (take n buffer ≡ d)
gathered n d was buffer e h k =
    let l : length d ≡ n = omega (arith, ap length e, length-append d (drop n was), length-drop n was) in
    (l, ap (take n) e ∙ take_at d (drop n was) n l)
