-- States: their entries, the state of a queue, and the queue of a state. Assumes nothing.
use Rattle.general.proofs.Names.{◌≡◌, refl, ap, ◌∙◌, List, [], ◌∷◌, ◌++◌, append_assoc, flat_map, ℕ, zero, suc, ◌+◌, ◌-◌, ◌*◌, ◌≤◌, ◌<◌, arith}
use Rattle.general.proofs.Names.{length, get_or, take, drop, set, replicate, length-append, length-replicate, set_at, append_snoc, length-take-le}
use Rattle.general.proofs.Names.{length-drop, sub-zero}
use Rattle.general.proofs.Choices.{tested}
use Rattle.symbol.specs.Version.{is_side, side_refusal}
use Rattle.queue.specs.Queue.{Waiting, waiting, is_waiting, entry_refusal, entries, grown, queue_of, state_of}
use Rattle.queue.specs.Inner.{front, kept, Counted}
use Rattle.queue.proofs.Queues.{Accepted, grown_accepted, grown_all}

pub flat_append : {A B : Type 0} (f : A → List B) (xs ys : List A) → flat_map f (xs ++ ys) ≡ flat_map f xs ++ flat_map f ys
unfolding flat_map
flat_append f [] ys = refl
flat_append f (x ∷ xs) ys = rw (flat_append f xs ys, append_assoc)

-- the bytes of a queue's entries
abbrev bytes : List Waiting → List ℕ
bytes q = flat_map (λ w. w.head ∷ w.side ∷ []) q

-- ---- entries

pub entry_at : (n : ℕ) (state : List ℕ) → 2 * n + 1 < length state
    → get_or (entries state) n (waiting 0 0) ≡ waiting (get_or state (2 * n) 0) (get_or state (2 * n + 1) 0)
entry_at n [] h = absurd (omega arith)
entry_at n (a ∷ []) h = absurd (omega arith)
entry_at zero (a ∷ b ∷ s) h = refl
entry_at (suc n) (a ∷ b ∷ s) h =
    let e : 2 * suc n ≡ suc (suc (2 * n)) = omega arith in
    let f : 2 * suc n + 1 ≡ suc (suc (2 * n + 1)) = omega arith in
    rw (f, e) (entry_at n s (omega arith))

-- as many as there are pairs of bytes
pub entries_many : (n : ℕ) (state : List ℕ) → 2 * n ≤ length state → n ≤ length (entries state)
entries_many zero state h = omega arith
entries_many (suc n) [] h = absurd (omega arith)
entries_many (suc n) (a ∷ []) h = absurd (omega arith)
entries_many (suc n) (a ∷ b ∷ s) h = omega (arith, entries_many n s (omega arith))

pub entries_few : (state : List ℕ) → 2 * length (entries state) ≤ length state
entries_few [] = omega arith
entries_few (a ∷ []) = omega arith
entries_few (a ∷ b ∷ s) = omega (arith, entries_few s)

-- the bytes of the first n
front_bytes : (n : ℕ) (state : List ℕ) → 2 * n ≤ length state → bytes (front n state) ≡ take (2 * n) state
unfolding flat_map
front_bytes zero state h = refl
front_bytes (suc n) [] h = absurd (omega arith)
front_bytes (suc n) (a ∷ []) h = absurd (omega arith)
front_bytes (suc n) (a ∷ b ∷ s) h =
    let e : 2 * suc n ≡ suc (suc (2 * n)) = omega arith in
    rw e (ap (λ (l : List ℕ). a ∷ b ∷ l) (front_bytes n s (omega arith)))

-- ---- the state of a queue

bytes_length : (q : List Waiting) → length (bytes q) ≡ 2 * length q
unfolding flat_map
bytes_length [] = refl
bytes_length (w ∷ q) = omega (arith, bytes_length q)

pub state_length : (q : List Waiting) → length q ≤ 6 → length (state_of q) ≡ 12
unfolding state_of
state_length q h = rw (length-append, bytes_length q, length-replicate) (omega arith)

-- one more behind them
pub state_snoc : (q : List Waiting) (w : Waiting) → length q ≤ 5
    → set (set (state_of q) (2 * length q) w.head) (2 * length q + 1) w.side ≡ state_of (q ++ (w ∷ []))
unfolding state_of flat_map
state_snoc q w h =
    let z : 12 - 2 * length q ≡ suc (suc (12 - 2 * (length q + 1))) = omega arith in
    let l : length (bytes q ++ (w.head ∷ [])) ≡ 2 * length q + 1 = rw length-append (omega (arith, bytes_length q)) in
    let n : length (q ++ (w ∷ [])) ≡ length q + 1 = length-append q (w ∷ []) in
    let r : List ℕ = replicate (12 - 2 * (length q + 1)) 0 in
    rw (
      z,
      n,
      flat_append (λ w. w.head ∷ w.side ∷ []) q (w ∷ []),
      set_at (bytes q) 0 (0 ∷ r) w.head _ (bytes_length q),
      ← append_snoc (bytes q) w.head (0 ∷ r),
      set_at (bytes q ++ (w.head ∷ [])) 0 r w.side _ l,
    ) (simp append_assoc)

-- the state of the first n entries
pub front_state : (n : ℕ) (state : List ℕ) → 2 * n ≤ length state → take (2 * n) state ++ replicate (12 - 2 * n) 0 ≡ state_of (front n state)
unfolding state_of
front_state n state h = rw (front_bytes n state h, length-take-le n (entries state) (entries_many n state h))

pub front_first : (n : ℕ) (state : List ℕ) → 2 * suc n ≤ length state → front (suc n) state ≡ waiting (get_or state 0 0) (get_or state 1 0) ∷ front n (drop 2 state)
front_first n [] h = absurd (omega arith)
front_first n (a ∷ []) h = absurd (omega arith)
front_first n (a ∷ b ∷ s) h = refl

-- ---- the queue of a state

pub queue_accepted : (state : List ℕ) → Accepted [] (queue_of state)
unfolding queue_of
queue_accepted state = let g = grown_accepted [] (entries state) in rw g.1 g.2

entries_bytes : (q : List Waiting) (s : List ℕ) → entries (bytes q ++ s) ≡ q ++ entries s
unfolding flat_map
entries_bytes [] s = refl
entries_bytes (w ∷ q) s = ap (λ (l : List Waiting). w ∷ l) (entries_bytes q s)

zeros_end : (q : List Waiting) (k : ℕ) → grown q (entries (replicate k 0)) ≡ q
unfolding grown entry_refusal side_refusal is_side
zeros_end q zero = refl
zeros_end q (suc zero) = refl
zeros_end q (suc (suc k)) = tested (is_waiting 0 q) (λ e. rw e) (λ e. rw e)

-- of the state that is written for a queue it is that queue
pub queue_of_state : (q : List Waiting) → Accepted [] q → queue_of (state_of q) ≡ q
unfolding queue_of state_of
queue_of_state q a = rw (entries_bytes q) (grown_all [] q _ a (zeros_end q (12 - 2 * length q)))

-- ---- what the functions leave

module _ (state : List ℕ) (long : length state ≡ 12) (n : ℕ) (counted : Counted state n) where
  pub counted_length : length (queue_of state) ≡ n
  counted_length = rw counted.is (length-take-le n (entries state) (entries_many n state (omega (arith, counted.most))))

  -- the queue alone, nothing behind it
  pub kept_all : kept 0 (2 * n) state ≡ state_of (queue_of state)
  kept_all = rw (counted.is, sub-zero) (front_state n state (omega (arith, counted.most)))

  -- one more stored behind it
  pub stored_last : (h s : ℕ) → n ≤ 5 → set (set (kept 0 (2 * n) state) (2 * n) h) (2 * n + 1) s ≡ state_of (queue_of state ++ (waiting h s ∷ []))
  stored_last h s r = rw (kept_all, ← counted_length) (state_snoc (queue_of state) (waiting h s) (omega (arith, counted_length)))

  pub nobody_waits : n ≡ 0 → queue_of state ≡ []
  nobody_waits e = counted.is ∙ rw e

  -- the first entry, if any waits
  pub first_waits : 0 < n → queue_of state ≡ waiting (get_or state 0 0) (get_or state 1 0) ∷ front (n - 1) (drop 2 state)
  first_waits h =
      let e : n ≡ suc (n - 1) = omega arith in
      counted.is ∙ ap (λ (m : ℕ). front m state) e ∙ front_first (n - 1) state (omega (arith, counted.most))

  pub kept_rest : 0 < n → kept 2 (2 * n) state ≡ state_of (front (n - 1) (drop 2 state))
  kept_rest h =
      let e : 2 * n - 2 ≡ 2 * (n - 1) = omega arith in
      rw e (front_state (n - 1) (drop 2 state) (rw length-drop (omega (arith, counted.most))))
