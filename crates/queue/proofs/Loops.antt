-- What a turn of a loop adds, and what a loop leaves. Assumes nothing.
use Rattle.general.proofs.Names.{◌≡◌, refl, sym, ap, ◌∙◌, ◌≢◌, true, false, List, ◌∷◌, ℕ, ◌+◌, ◌-◌, ◌*◌, ◌≤◌, ◌<◌, arith}
use Rattle.general.proofs.Names.{dec_lt, eq-eqb, ne_eqb, lt-ltb, le-ltb, length, get_or, take, drop, replicate, length-append, length-take-le, length-drop}
use Rattle.general.proofs.Names.{length-replicate, get_or-append, get_or-append-add, get_or-take, get_or-drop, get_or-replicate, drop-cons, take-suc, add-one}
use Rattle.general.proofs.Names.{drop_of_length-le, ext_get_or}
use Rattle.general.specs.Each.{Each}
use Rattle.queue.specs.Queue.{Waiting, waiting, is_waiting, entry_refusal, entries, grown, queue_of}
use Rattle.queue.specs.Inner.{front, byte_before, kept, Counted}
use Rattle.queue.proofs.States.{entry_at, entries_many, entries_few}

-- ---- a head among the first n entries

-- it is among all where it is among those from i on
pub record AmongFrom (state : List ℕ) (n head i : ℕ) : Type 0 where
  pub most : i ≤ n
  pub is : is_waiting head (front n state) ≡ is_waiting head (drop i (front n state))

pub among_start : (state : List ℕ) (n head : ℕ) → AmongFrom state n head 0
among_start state n head = record { most = omega arith; is = refl }

module _ (state : List ℕ) (n head i : ℕ) (so_far : AmongFrom state n head i) (fits : 2 * n ≤ length state) where
  front_length : length (front n state) ≡ n
  front_length = length-take-le n (entries state) (entries_many n state fits)

  front_at : i < n → drop i (front n state) ≡ waiting (get_or state (2 * i) 0) (get_or state (2 * i + 1) 0) ∷ drop (i + 1) (front n state)
  front_at h =
      drop-cons (front n state) i (waiting 0 0) (omega (arith, front_length))
      ∙ rw (get_or-take n (entries state) i (waiting 0 0) h, entry_at i state (omega arith), add-one i)

  pub among_here : i < n → get_or state (2 * i) 0 ≡ head → is_waiting head (front n state) ≡ true
  unfolding is_waiting
  among_here h e = so_far.is ∙ rw (front_at h, eq-eqb _ _ e)

  pub among_next : i < n → get_or state (2 * i) 0 ≢ head → AmongFrom state n head (i + 1)
  unfolding is_waiting
  among_next h e = record { most = omega arith; is = so_far.is ∙ rw (front_at h, ne_eqb _ _ e) }

  pub among_end : n ≤ i → is_waiting head (front n state) ≡ false
  unfolding is_waiting
  among_end h = so_far.is ∙ rw (drop_of_length-le (front n state) {i = i} (omega (arith, front_length)))

-- ---- the entries that wait

-- the first n do; the queue has what is accepted behind them, too
pub record CountedTo (state : List ℕ) (n : ℕ) : Type 0 where
  pub most : n ≤ 6
  pub is : queue_of state ≡ grown (front n state) (drop n (entries state))

pub count_start : (state : List ℕ) → CountedTo state 0
unfolding queue_of
count_start state = record { most = omega arith; is = refl }

module _ (state : List ℕ) (n : ℕ) (so_far : CountedTo state n) (long : length state ≡ 12) where
  six : length (entries state) ≡ 6
  six = omega (arith, entries_many 6 state (omega arith), entries_few state)

  abbrev pub here : Waiting
  here = waiting (get_or state (2 * n) 0) (get_or state (2 * n + 1) 0)

  left : n < 6 → drop n (entries state) ≡ here ∷ drop (n + 1) (entries state)
  left h = drop-cons (entries state) n (waiting 0 0) (omega (arith, six)) ∙ rw (entry_at n state (omega arith), add-one n)

  pub count_stop : n < 6 → entry_refusal (front n state) here ≢ 0 → Counted state n
  unfolding grown
  count_stop h e = record { most = so_far.most; is = so_far.is ∙ rw (left h, ne_eqb _ 0 e) }

  pub count_next : n < 6 → entry_refusal (front n state) here ≡ 0 → CountedTo state (n + 1)
  unfolding grown
  count_next h e = record {
    most = omega arith;
    is = so_far.is
        ∙ rw (left h, eq-eqb _ 0 e, add-one n, take-suc (entries state) n (waiting 0 0) (omega (arith, six)), entry_at n state (omega arith));
  }

  pub count_end : 6 ≤ n → Counted state n
  unfolding grown
  count_end h = record { most = so_far.most; is = so_far.is ∙ rw (drop_of_length-le (entries state) {i = n} (omega (arith, six))) }

-- ---- bytes brought to the front

module _ (state : List ℕ) (long : length state ≡ 12) (from end : ℕ) (order : from ≤ end) (inside : end ≤ 12) where
  abbrev part : List ℕ
  part = take (end - from) (drop from state)

  part_length : length part ≡ end - from
  part_length = length-take-le _ _ (rw length-drop (omega arith))

  kept_at : (i : ℕ) → i < 12 → get_or (kept from end state) i 0 ≡ byte_before end state (from + i)
  kept_at i h =
      elim (dec_lt i (end - from)) [
        | yes l ↦ get_or-append part _ 0 i (omega (arith, part_length)) ∙ get_or-take _ _ i 0 l ∙ get_or-drop from state i 0 ∙ rw (lt-ltb (from + i) end (omega arith))
        | no l ↦ let e : i ≡ length part + (i - (end - from)) = omega (arith, part_length) in
            ap (λ (k : ℕ). get_or (kept from end state) k 0) e ∙ get_or-append-add part (replicate (12 - (end - from)) 0) (i - (end - from)) 0
            ∙ get_or-replicate (12 - (end - from)) (i - (end - from)) 0 0 (omega arith) ∙ rw (le-ltb (from + i) end (omega arith))
      ]

  pub kept_length : length (kept from end state) ≡ 12
  kept_length = rw (length-append, part_length, length-replicate) (omega arith)

  pub all_kept : (s : List ℕ) → Each (λ i x. byte_before end state (from + i)) 12 state s → s ≡ kept from end state
  all_kept s E = ext_get_or 0 s (kept from end state) (E.size ∙ long ∙ sym kept_length) (λ i h. E.done i (omega (arith, E.size)) ∙ sym (kept_at i (omega (arith, E.size))))
