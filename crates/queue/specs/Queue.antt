-- SPECIFICATION 10.13, 10.14 and 14.1 to 14.3: six heads wait for one reader, in a queue that stands in 12 lent bytes.
use Rattle.std.specs.Prelude.{Bool, false, cond, ◌||◌, ℕ, ◌-◌, ◌*◌, ltb, eqb, length, replicate}
use mathlib.Core.List.{List, [], ◌∷◌, ◌++◌, foldr, flat_map}
use Rattle.symbol.specs.Version.{side_refusal}

-- a head that waits, and the side that it announced
pub record Waiting : Type 0 where
  pub head : ℕ
  pub side : ℕ

abbrev pub waiting : ℕ → ℕ → Waiting
waiting h s = record { head = h; side = s }

-- a head waits in a queue, which has those that wait in the order in which they came
unfoldable pub is_waiting : ℕ → List Waiting → Bool
is_waiting h q = foldr (λ w r. eqb w.head h || r) false q

-- what refuses one that would wait behind a queue: 16 head number above 5; 17 that head already waits; 1 a side that no version has
unfoldable pub entry_refusal : List Waiting → Waiting → ℕ
entry_refusal q w = cond (ltb 5 w.head) 16 (cond (is_waiting w.head q) 17 (side_refusal w.side))

-- 14.1: the entries of a state, two bytes each, head and side
abbrev pub entries : List ℕ → List Waiting
entries [] = []
entries (h ∷ []) = []
entries (h ∷ s ∷ bytes) = waiting h s ∷ entries bytes

-- 14.2: a queue, and behind it the entries up to the first that is refused there
unfoldable pub grown : List Waiting → List Waiting → List Waiting
grown q [] = q
grown q (w ∷ ws) = cond (eqb (entry_refusal q w) 0) (grown (q ++ (w ∷ [])) ws) q

-- the queue that a state means
unfoldable pub queue_of : List ℕ → List Waiting
queue_of state = grown [] (entries state)

-- 14.3: the state that is written for a queue: its entries, and zeros behind them
unfoldable pub state_of : List Waiting → List ℕ
state_of q = flat_map (λ w. w.head ∷ w.side ∷ []) q ++ replicate (12 - 2 * length q) 0

-- SPECIFICATION 10.13, Hand in. What it gives: the refusal number or 0, and what the state holds afterwards
pub record HandIn : Type 0 where
  pub number : ℕ
  pub state : List ℕ

abbrev pub hand_in : ℕ → List ℕ → HandIn
hand_in n state = record { number = n; state = state }

-- 2 state not 12 bytes; 16, 17 and 1
unfoldable pub hand_in_refusal : List ℕ → Waiting → ℕ
hand_in_refusal state w = cond (eqb (length state) 12) (entry_refusal (queue_of state) w) 2

-- it waits behind all others; a refusal leaves the state
unfoldable pub hand_in_of : List ℕ → ℕ → ℕ → HandIn
hand_in_of state head side =
    let w = waiting head side in
    cond (eqb (hand_in_refusal state w) 0) (hand_in 0 (state_of (queue_of state ++ (w ∷ [])))) (hand_in (hand_in_refusal state w) state)

-- SPECIFICATION 10.14, Turn. What it gives: the refusal number or 0, head and side of the one that is served, both 0 if there is none, and what
-- the state holds afterwards
pub record Turn : Type 0 where
  pub number : ℕ
  pub head : ℕ
  pub side : ℕ
  pub state : List ℕ

abbrev pub turn : ℕ → ℕ → ℕ → List ℕ → Turn
turn n head side state = record { number = n; head = head; side = side; state = state }

-- the longest waiting is named and taken off; with nobody waiting the state stays
unfoldable pub served : List Waiting → List ℕ → Turn
served [] state = turn 0 0 0 state
served (w ∷ q) state = turn 0 w.head w.side (state_of q)

-- 2 state not 12 bytes
unfoldable pub turn_of : List ℕ → Turn
turn_of state = cond (eqb (length state) 12) (served (queue_of state) state) (turn 2 0 0 state)
