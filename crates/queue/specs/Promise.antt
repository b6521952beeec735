-- SPECIFICATION 14.4: lists of hand-ins and turns, and the words of the theorem about them.
use Rattle.std.specs.Prelude.{◌≡◌, cond, ℕ, ◌+◌, ◌-◌, ◌≤◌, ◌<◌, eqb, length, get_or, replicate}
use Rattle.std.proofs.Math.Option.{Option, none, some}
use mathlib.Core.List.{List, [], ◌∷◌, ◌++◌, flat_map}
use Rattle.queue.specs.Queue.{Waiting, waiting, queue_of, hand_in_of, Turn, turn_of}

-- an event: a head hands in a square of a side, both any numbers; or a turn is taken
pub data Event : Type 0 where
  hands_in : ℕ → ℕ → Event
  takes_turn : Event

-- the empty queue, twelve zeros
abbrev pub empty : List ℕ
empty = replicate 12 0

-- the state after an event, and after a list of events
abbrev pub next : List ℕ → Event → List ℕ
next state (hands_in h s) = (hand_in_of state h s).state
next state takes_turn = (turn_of state).state

abbrev pub after : List ℕ → List Event → List ℕ
after state [] = state
after state (e ∷ es) = after (next state e) es

-- what f gives for each event and the state that it meets, joined
abbrev pub along : {A : Type 0} → (List ℕ → Event → List A) → List ℕ → List Event → List A
along f state [] = []
along f state (e ∷ es) = f state e ++ along f (next state e) es

-- the hand-ins that are accepted, in order
abbrev pub accepted_at : List ℕ → Event → List Waiting
accepted_at state (hands_in h s) = cond (eqb (hand_in_of state h s).number 0) (waiting h s ∷ []) []
accepted_at state takes_turn = []

abbrev pub accepted : List ℕ → List Event → List Waiting
accepted = along accepted_at

-- whom a turn names: nobody where it answers side 0
abbrev pub whom : Turn → Option Waiting
whom t = cond (eqb t.side 0) none (some (waiting t.head t.side))

-- whom each turn names, one after the other
abbrev pub named_at : List ℕ → Event → List (Option Waiting)
named_at state (hands_in h s) = []
named_at state takes_turn = whom (turn_of state) ∷ []

abbrev pub named : List ℕ → List Event → List (Option Waiting)
named = along named_at

-- those that are named, in order
abbrev pub someone : Option Waiting → List Waiting
someone none = []
someone (some w) = w ∷ []

abbrev pub served_in : List ℕ → List Event → List Waiting
served_in state es = flat_map someone (named state es)

-- how many turns there are
abbrev pub turns_in : List Event → ℕ
turns_in [] = 0
turns_in (hands_in h s ∷ es) = turns_in es
turns_in (takes_turn ∷ es) = 1 + turns_in es

-- head h waits with side s, behind j others
abbrev pub WaitsBehind : List ℕ → ℕ → ℕ → ℕ → Type 0
WaitsBehind state j h s = (j < length (queue_of state)) × (get_or (queue_of state) j (waiting 0 0) ≡ waiting h s)

-- head h waits with side s
abbrev pub Waits : List ℕ → ℕ → ℕ → Type 0
Waits state h s = (j : ℕ) × WaitsBehind state j h s

-- among later events, turn number k, the first being 1, names head h with side s
abbrev pub ServedAt : List ℕ → List Event → ℕ → ℕ → ℕ → Type 0
ServedAt state later k h s = (1 ≤ k) × (k ≤ turns_in later) × (get_or (named state later) (k - 1) none ≡ some (waiting h s))

-- it does so within n turns
abbrev pub ServedWithin : ℕ → List ℕ → List Event → ℕ → ℕ → Type 0
ServedWithin n state later h s = (k : ℕ) × (k ≤ n) × ServedAt state later k h s
