-- Interleave: every stream place is reached, so that a stream that was interleaved is given back.
use Rattle.general.proofs.Names.{◌≡◌, refl, ap, ap₂, ◌∙◌, sym, subst, Bool, true, false, ◌≢◌, ◌⊎◌, inl, inr, List, [], ◌∷◌, ◌++◌, map, append_assoc, append-nil}
use Rattle.general.proofs.Names.{ℕ, zero, suc, ◌+◌, ◌-◌, ◌*◌, ◌/◌, ◌%◌, ◌<◌, ◌≤◌, arith, ℕ_discrete, add-one, add-zero, zero-add, add-suc, suc-add, length}
use Rattle.general.proofs.Names.{get_or, set, take, drop, replicate, length-set, length-replicate, length-map, length-append, take-append-drop, get_or-set_same}
use Rattle.general.proofs.Names.{get_or-set_other, ext_get_or, drop-cons, take-set-lt, drop-set-lt, take-suc-set, length-take-le, get_or-take, take_all}
use Rattle.bits.specs.Bits.{store_at}
use Rattle.codewords.specs.Codewords.{order, to_stream, from_stream}
use Rattle.codewords.specs.Inner.{into, out_of, moved, gone_on, Moving, Moves, steps, starts}
use Rattle.general.specs.Lists.{each}

-- p is one of ps
abbrev pub Among : ℕ → List ℕ → Type 0
Among p [] = ⊥
Among p (q ∷ ps) = (p ≡ q) ⊎ Among p ps

pub length_store : (ps cs s : List ℕ) → length (store_at ps cs s) ≡ length s
unfolding store_at
length_store [] cs s = refl
length_store (p ∷ ps) [] s = refl
length_store (p ∷ ps) (c ∷ cs) s = length_store ps cs (set s p c) ∙ length-set s p c

module _ (s : List ℕ) where
  abbrev at : ℕ → ℕ
  at p = get_or s p 0

  -- a place that is right stays right
  kept : (ps acc : List ℕ) (p : ℕ) → length acc ≡ length s → p < length s → get_or acc p 0 ≡ at p → get_or (store_at ps (map at ps) acc) p 0 ≡ at p
  unfolding store_at
  kept [] acc p e h g = g
  kept (q ∷ ps) acc p e h g = kept ps (set acc q (at q)) p (length-set acc q (at q) ∙ e) h (elim (ℕ_discrete p q) [
    | yes z ↦ rw z (get_or-set_same acc q (at q) 0 (omega arith))
    | no z ↦ get_or-set_other acc q p (at q) 0 z ∙ g
  ])

  reached : (ps acc : List ℕ) (p : ℕ) → length acc ≡ length s → p < length s → Among p ps → get_or (store_at ps (map at ps) acc) p 0 ≡ at p
  unfolding store_at
  reached [] acc p e h a = absurd a
  reached (q ∷ ps) acc p e h (inl z) =
      kept ps (set acc q (at q)) p (length-set acc q (at q) ∙ e) h (rw z (get_or-set_same acc q (at q) 0 (omega arith)))
  reached (q ∷ ps) acc p e h (inr a) = reached ps (set acc q (at q)) p (length-set acc q (at q) ∙ e) h a

among_left : (p : ℕ) (ps qs : List ℕ) → Among p ps → Among p (ps ++ qs)
among_left p [] qs a = absurd a
among_left p (x ∷ ps) qs (inl e) = inl e
among_left p (x ∷ ps) qs (inr a) = inr (among_left p ps qs a)

among_right : (p : ℕ) (ps qs : List ℕ) → Among p qs → Among p (ps ++ qs)
among_right p [] qs a = a
among_right p (x ∷ ps) qs a = inr (among_right p ps qs a)

on_step : (p k q : ℕ) → q < k → Among (p + 13 * q) (steps p k)
unfolding steps
on_step p zero q h = absurd (omega arith)
on_step p (suc k) zero h = inl (omega arith)
on_step p (suc k) (suc q) h = let e : p + 13 + 13 * q ≡ p + 13 * suc q = omega arith in inr (rw e at (on_step (p + 13) k q (omega arith)))

on_start : (n p r j : ℕ) → p < n → r ≤ p % 13 → p % 13 < r + j → r + j ≤ 13 → Among p (starts n r j)
unfolding starts
on_start n p r zero h lo hi c = absurd (omega arith)
on_start n p r (suc j) h lo hi c = elim (ℕ_discrete (p % 13) r) [
  | yes e ↦ (let z : r + 13 * (p / 13) ≡ p = omega arith in among_left p (steps r ((n + 12 - r) / 13)) (starts n (suc r) j)
      (rw z at (on_step r ((n + 12 - r) / 13) (p / 13) (omega arith))))
  | no d ↦ among_right p (steps r ((n + 12 - r) / 13)) (starts n (suc r) j) (on_start n p (suc r) j h (omega arith) (omega arith) (omega arith))
]

-- the code's way through the places
steps_last : (p n : ℕ) → steps p (suc n) ≡ steps p n ++ ((p + 13 * n) ∷ [])
unfolding steps
steps_last p zero = simp add-zero
steps_last p (suc n) = let e : p + 13 + 13 * n ≡ p + 13 * suc n = omega arith in rw (steps_last (p + 13) n, e)

starts_last : (n s k : ℕ) → starts n s (suc k) ≡ starts n s k ++ steps (s + k) ((n + 12 - (s + k)) / 13)
unfolding starts
starts_last n s zero = rw add-zero (append-nil (steps s ((n + 12 - s) / 13)))
starts_last n s (suc k) = simp (starts_last n (suc s) k, suc-add, add-suc, append_assoc)

steps_are : (p n : ℕ) → each n (λ i. (p + 13 * i) ∷ []) ≡ steps p n
unfolding each steps
steps_are p zero = refl
steps_are p (suc n) = rw (steps_are p n, steps_last p n)

starts_are : (n k : ℕ) → each k (λ s. each ((n + 12 - s) / 13) (λ i. (s + 13 * i) ∷ [])) ≡ starts n 0 k
unfolding each starts
starts_are n zero = refl
starts_are n (suc k) = rw (starts_are n k, steps_are k ((n + 12 - k) / 13), starts_last n 0 k, zero-add)

pub order_is : (n : ℕ) → order n ≡ starts n 0 13
unfolding order
order_is n = starts_are n 13

-- every place is one of the order's
pub on_order : (n p : ℕ) → p < n → Among p (order n)
on_order n p h = subst (Among p) (sym (order_is n)) (on_start n p 0 13 h (omega arith) (omega arith) (omega arith))

length_steps : (p k : ℕ) → length (steps p k) ≡ k
unfolding steps
length_steps p zero = refl
length_steps p (suc k) = ap suc (length_steps (p + 13) k)

length_starts : (n r j : ℕ) → r + j ≡ 13 → length (starts n r j) ≡ j * (n / 13) + (n % 13 - r)
unfolding starts
length_starts n r zero e = omega arith
length_starts n r (suc j) e =
    simp (length-append, length_steps, length_starts n (suc r) j (omega arith)) (omega arith)

pub length_order : (n : ℕ) → length (order n) ≡ n
length_order n = ap length (order_is n) ∙ length_starts n 0 13 (omega arith) ∙ omega arith

pub length_interleaved : (s : List ℕ) → length (from_stream s) ≡ length s
unfolding from_stream
length_interleaved s = length-map (order (length s)) (λ p. get_or s p 0) ∙ length_order (length s)

pub length_stream : (cs : List ℕ) → length (to_stream cs) ≡ length cs
unfolding to_stream
length_stream cs = length_store (order (length cs)) cs (replicate (length cs) 0) ∙ length-replicate (length cs) 0

-- the stream of what was interleaved
pub interleave_back : (s : List ℕ) → to_stream (from_stream s) ≡ s
unfolding to_stream from_stream
interleave_back s =
    let n = length s in
    let ps = order (length s) in
    let zs : List ℕ = replicate n 0 in
    let z : length zs ≡ n = length-replicate n 0 in
    let l : length (store_at ps (map (at s) ps) zs) ≡ n = length_store ps (map (at s) ps) zs ∙ z in
    ap (λ (k : ℕ). store_at (order k) (map (at s) ps) (replicate k 0)) (length_interleaved s)
    ∙ ext_get_or 0 (store_at ps (map (at s) ps) zs) s l
    (λ i h. let o : i < length s = omega arith in reached s ps zs i z o (on_order n i o))

-- a place that is stored to, or that agrees, agrees after
agree : (ps cs a b : List ℕ) (p : ℕ) → length cs ≡ length ps → length a ≡ length b → p < length a → (get_or a p 0 ≡ get_or b p 0) ⊎ Among p ps
    → get_or (store_at ps cs a) p 0 ≡ get_or (store_at ps cs b) p 0
unfolding store_at
agree [] cs a b p l e h (inl z) = z
agree [] cs a b p l e h (inr x) = absurd x
agree (q ∷ ps) [] a b p l e h o = absurd (omega arith)
agree (q ∷ ps) (c ∷ cs) a b p l e h o =
    agree ps cs (set a q c) (set b q c) p (omega arith) (length-set a q c ∙ e ∙ sym (length-set b q c)) (omega (arith, length-set a q c))
    (elim (ℕ_discrete p q) [
      | yes z ↦ inl (at a h z ∙ sym (at b (omega arith) z))
      | no z ↦ other z o
    ])
  where
    at : (x : List ℕ) → p < length x → p ≡ q → get_or (set x q c) p 0 ≡ c
    at x l z = rw z (get_or-set_same x q c 0 (omega arith))

    other : p ≢ q → (get_or a p 0 ≡ get_or b p 0) ⊎ Among p (q ∷ ps) → (get_or (set a q c) p 0 ≡ get_or (set b q c) p 0) ⊎ Among p ps
    other z (inl y) = inl (get_or-set_other a q p c 0 z ∙ y ∙ sym (get_or-set_other b q p c 0 z))
    other z (inr (inl y)) = absurd (z y)
    other z (inr (inr y)) = inr y

-- what stood in the stream before does not matter
pub stream_from : (cs a : List ℕ) → length a ≡ length cs → store_at (order (length cs)) cs a ≡ to_stream cs
unfolding to_stream
stream_from cs a e =
    let n = length cs in
    let z : List ℕ = replicate n 0 in
    let l : length (store_at (order n) cs a) ≡ n = length_store (order n) cs a ∙ e in
    ext_get_or 0 (store_at (order n) cs a) (store_at (order n) cs z) (l ∙ sym (length_store (order n) cs z ∙ length-replicate n 0))
    (λ i h. agree (order n) cs a z i (sym (length_order n)) (e ∙ sym (length-replicate n 0)) (omega arith) (inr (on_order n i (omega arith))))

pub starts_open : (n s : ℕ) → s < 13 → starts n s (13 - s) ≡ steps s ((n + 12 - s) / 13) ++ starts n (s + 1) (13 - (s + 1))
unfolding starts
starts_open n s h = let u : 13 - s ≡ suc (13 - (s + 1)) = omega arith in rw (u, add-one)

pub steps_open : (n p : ℕ) → p < n → steps p ((n + 12 - p) / 13) ≡ p ∷ steps (p + 13) ((n + 12 - (p + 13)) / 13)
unfolding steps
steps_open n p h = let u : (n + 12 - p) / 13 ≡ suc ((n + 12 - (p + 13)) / 13) = omega arith in ap (steps p) u

pub steps_done : (n p : ℕ) → n ≤ p → steps p ((n + 12 - p) / 13) ≡ []
unfolding steps
steps_done n p h = let u : (n + 12 - p) / 13 ≡ 0 = omega arith in ap (steps p) u

-- one codeword is moved, and none is left
moved_one : (d : Bool) (cs out qs : List ℕ) (p i : ℕ) → i < length cs → length out ≡ length cs
    → gone_on d cs (set out (into d p i) (get_or cs (out_of d p i) 0)) qs (i + 1) ≡ gone_on d cs out (p ∷ qs) i
unfolding store_at
moved_one true cs out qs p i h e = rw (add-one, drop-cons cs i 0 h)
moved_one false cs out qs p i h e = rw (add-one, take-suc-set out i (get_or cs p 0) (omega arith), append_assoc)

moved_all : (d : Bool) (cs out : List ℕ) (i : ℕ) → length out ≤ i → gone_on d cs out [] i ≡ out
unfolding store_at
moved_all true cs out i h = refl
moved_all false cs out i h = append-nil (take i out) ∙ take_all i out h

-- the places of the starts behind s, and those in front of them from p on
abbrev later : ℕ → ℕ → List ℕ
later n s = starts n (s + 1) (13 - (s + 1))

abbrev from : ℕ → ℕ → ℕ → List ℕ
from n p s = steps p ((n + 12 - p) / 13) ++ later n s

module _ (d : Bool) (cs : List ℕ) where
  move_begun : (out : List ℕ) → length out ≡ length cs → Moving d cs out (starts (length cs) 0 (13 - 0)) 0
  unfolding from_stream
  move_begun out e =
      subst (λ (ps : List ℕ). Moving d cs out ps 0) (order_is (length cs)) (record { size = e; rest = omega (arith, length_order (length cs)); left = all d })
    where
      all : (d : Bool) → gone_on d cs out (order (length cs)) 0 ≡ moved d cs
      all true = stream_from cs out e
      all false = refl

  module _ (out : List ℕ) (i : ℕ) where
    move_more : (p s : ℕ) → p < length cs → Moving d cs out (from (length cs) p s) i
        → (i < length cs) × Moving d cs (set out (into d p i) (get_or cs (out_of d p i) 0)) (from (length cs) (p + 13) s) (i + 1)
    move_more p s h U =
        let qs = from (length cs) (p + 13) s in
        let U' : Moving d cs out (p ∷ qs) i = rw (steps_open (length cs) p h) at U in
        let l : i < length cs = omega arith in
        (l, record { size = length-set out _ _ ∙ U.size; rest = omega arith; left = moved_one d cs out qs p i l U.size ∙ U'.left })

    move_done : (s : ℕ) → 13 ≤ s → Moving d cs out (starts (length cs) s (13 - s)) i → out ≡ moved d cs
    unfolding starts
    move_done s h U =
        let z : 13 - s ≡ 0 = omega arith in
        sym (moved_all d cs out i (omega (arith, rw z at U.rest))) ∙ (rw z at U.left)

-- Within one start, places p, p + 13, .. are left.
pub record MoveStart (d : Bool) (total : ℕ) (cs out₀ out : List ℕ) (start n p : ℕ) : Type 0 where
  pub few : total ≤ 65535
  pub room : total ≤ length out
  pub whole : total ≤ length cs
  pub kept : length out ≡ length out₀
  pub beyond : drop total out ≡ drop total out₀
  pub moving : Moving d (take total cs) (take total out) (from (length (take total cs)) p start) n

both_below : (d : Bool) {t p n : ℕ} → p < t → n < t → (into d p n < t) × (out_of d p n < t)
both_below true a b = (a, b)
both_below false a b = (b, a)

module _ {d : Bool} {total : ℕ} {cs out₀ : List ℕ} {start : ℕ} where
  pub move_enter : {i : ℕ} → Moves d total cs out₀ start i → start < 13 → MoveStart d total cs out₀ out₀ start i start
  move_enter {i} t h = record {
    few = t.few;
    room = t.room;
    whole = t.whole;
    kept = refl;
    beyond = refl;
    moving = rw (starts_open (length (take total cs)) start h) at t.moving;
  }

  module _ {out : List ℕ} {n p : ℕ} (s : MoveStart d total cs out₀ out start n p) where
    lent : length (take total cs) ≡ total
    lent = length-take-le total cs s.whole

    turned : p < total → (n < length (take total cs))
        × Moving d (take total cs) (set (take total out) (into d p n) (get_or (take total cs) (out_of d p n) 0)) (from (length (take total cs)) (p + 13) start)
        (n + 1)
    turned h = move_more d (take total cs) (take total out) n p start (omega (arith, lent)) s.moving

    pub move_place : p < total → n < total
    move_place h = omega (arith, lent, (turned h).0)

    pub move_turn : p < total → MoveStart d total cs out₀ (set out (into d p n) (get_or cs (out_of d p n) 0)) start (n + 1) (p + 13)
    move_turn h =
        let b = both_below d h (move_place h) in
        let x = get_or cs (out_of d p n) 0 in
        record {
          few = s.few;
          room = omega (arith, length-set out (into d p n) x);
          whole = s.whole;
          kept = length-set out (into d p n) x ∙ s.kept;
          beyond = drop-set-lt total out (into d p n) x b.0 ∙ s.beyond;
          moving = rw (take-set-lt total out (into d p n) x b.0) (rw (get_or-take total cs (out_of d p n) 0 b.1) at (turned h).1);
        }

    pub move_leave : total ≤ p → Moves d total cs out (start + 1) n
    move_leave h =
        record {
          few = s.few;
          room = s.room;
          whole = s.whole;
          moving = rw (steps_done (length (take total cs)) p (omega (arith, lent))) at s.moving;
        }

pub move_first : (d : Bool) (total : ℕ) (cs out : List ℕ) → total ≤ length out → total ≤ length cs → total ≤ 65535 → Moves d total cs out 0 0
move_first d total cs out a b c = record {
  few = c;
  room = a;
  whole = b;
  moving = move_begun d (take total cs) (take total out) (length-take-le total out a ∙ sym (length-take-le total cs b));
}

pub move_last : (d : Bool) (out₀ : List ℕ) {total : ℕ} {cs out : List ℕ} {start i : ℕ} → Moves d total cs out start i → 13 ≤ start
    → drop total out ≡ drop total out₀ → out ≡ moved d (take total cs) ++ drop total out₀
move_last d out₀ {total} {cs} {out} {start} {i} t h e =
    sym (take-append-drop total out) ∙ ap₂ ◌++◌ (move_done d (take total cs) (take total out) i start h t.moving) e
