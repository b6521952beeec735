-- For inner functions: nobody has to believe it.
use Rattle.std.specs.Prelude.{◌≡◌, cond, List, ◌++◌, ltb, ℕ, ◌-◌, ◌≤◌, get_or, take, drop, replicate}
use Rattle.queue.specs.Queue.{Waiting, entries, queue_of}

-- the first n entries of a state
abbrev pub front : ℕ → List ℕ → List Waiting
front n state = take n (entries state)

-- those are its queue
pub record Counted (state : List ℕ) (n : ℕ) : Type 0 where
  pub most : n ≤ 6
  pub is : queue_of state ≡ front n state

-- the byte of a state at a place before an end, or 0
abbrev pub byte_before : ℕ → List ℕ → ℕ → ℕ
byte_before end state at = cond (ltb at end) (get_or state at 0) 0

-- the bytes of a state from a place to an end, brought to its front, and zeros behind them
abbrev pub kept : ℕ → ℕ → List ℕ → List ℕ
kept from end state = take (end - from) (drop from state) ++ replicate (12 - (end - from)) 0
