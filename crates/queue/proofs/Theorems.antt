-- SIX HEADS, ONE READER (SPECIFICATION 14.5 to 14.9), over every list of hand-ins, by any head with any side, and turns from an empty queue,
-- and over the definitions that the contracts cite. The words are those of specs/Promise.antt. Assumes nothing.
use Rattle.general.proofs.Names.{◌≡◌, refl, ◌≢◌, some, none, List, [], ◌∷◌, ◌++◌, ℕ, ◌+◌, ◌≤◌, ◌<◌, length, flat_map}
use Rattle.queue.specs.Queue.{waiting, is_waiting, entry_refusal, grown, queue_of, state_of, hand_in_refusal, hand_in_of, turn, served, turn_of}
use Rattle.queue.specs.Promise.{Event, hands_in, takes_turn, empty, after, accepted, named, served_in, turns_in, WaitsBehind, Waits, ServedAt, ServedWithin}
use Rattle.symbol.specs.Version.{is_side, side_refusal}
use Rattle.queue.proofs.Queues.{at_most_six}
use Rattle.queue.proofs.States.{queue_accepted}
use Rattle.queue.proofs.Events as events

-- `es` is whatever was handed in and served since the queue was empty, and `later` whatever comes then: hand-ins of this head or others,
-- accepted or refused, and turns.
module _ (es : List Event) where
  abbrev long : length (after empty es) ≡ 12
  long = events.after_length empty es refl

  -- SERVED WITHIN SIX TURNS. A head that waits is served within six turns, with the side that it announced ..
  pub served_within_six : (h s : ℕ) → Waits (after empty es) h s → (later : List Event) → 6 ≤ turns_in later → ServedWithin 6 (after empty es) later h s
  served_within_six h s w later = events.served_soon (after empty es) long later h s w

  -- .. since at most six wait ..
  pub six_at_most : length (queue_of (after empty es)) ≤ 6
  six_at_most = at_most_six (queue_of (after empty es)) (queue_accepted (after empty es))

  -- .. and one behind j others is served at turn j + 1.
  pub served_in_turn : (j h s : ℕ) → WaitsBehind (after empty es) j h s → (later : List Event) → j < turns_in later → ServedAt (after empty es) later (j + 1) h s
  served_in_turn j h s w later = events.turn_comes (after empty es) long later j h s w

  -- Whoever hands in and is accepted waits then, with that side, behind all that waited before ..
  pub accepted_waits : (h s : ℕ) → (hand_in_of (after empty es) h s).number ≡ 0
      → WaitsBehind (hand_in_of (after empty es) h s).state (length (queue_of (after empty es))) h s
  accepted_waits = events.waits_behind (after empty es) long

  -- .. and so is served within six turns.
  pub accepted_is_served : (h s : ℕ) → (hand_in_of (after empty es) h s).number ≡ 0 → (later : List Event) → 6 ≤ turns_in later
      → ServedWithin 6 (hand_in_of (after empty es) h s).state later h s
  accepted_is_served h s e later =
      events.served_soon (hand_in_of (after empty es) h s).state (events.next_length (after empty es) (hands_in h s) long) later h s (_, accepted_waits h s e)

  -- NOBODY IS LOST. Those that were served, in the order of their turns, and then those that wait, in the order of the queue, are exactly those
  -- whose hand-ins were accepted, in their order, each with the side that it announced: each is served once for each accepted hand-in,
  -- nobody else is, and nobody overtakes.
  pub nobody_is_lost : served_in empty es ++ queue_of (after empty es) ≡ accepted empty es
  nobody_is_lost = rw events.empty_queue at (events.all_queue empty es refl)

  -- A head gets 17 exactly when it waits.
  pub waiting_is_seventeen : (h s t : ℕ) → Waits (after empty es) h s → (hand_in_of (after empty es) h t).number ≡ 17
  waiting_is_seventeen = events.waiting_seventeen (after empty es) long

  pub seventeen_is_waiting : (h t : ℕ) → (hand_in_of (after empty es) h t).number ≡ 17 → (s : ℕ) × Waits (after empty es) h s
  seventeen_is_waiting = events.seventeen_waiting (after empty es) long

  -- A turn with nobody waiting says so ..
  pub nobody_is_said : queue_of (after empty es) ≡ [] → turn_of (after empty es) ≡ turn 0 0 0 (after empty es)
  nobody_is_said = events.turn_nobody (after empty es) long

  -- .. and only then answers side 0.
  pub side_zero_is_nobody : (turn_of (after empty es)).side ≡ 0 → queue_of (after empty es) ≡ []
  side_zero_is_nobody = events.zero_nobody (after empty es) long

  -- The 12 bytes are the entries of those that wait, and zeros: no entry that makes no sense ever stands there.
  pub nothing_else_stands : after empty es ≡ state_of (queue_of (after empty es))
  nothing_else_stands = events.after_clean empty es refl events.empty_clean

-- NOTHING CHANGES, whatever the bytes are, by a refused hand-in, and by a turn that names nobody.
pub refused_changes_nothing : (state : List ℕ) (h s : ℕ) → (hand_in_of state h s).number ≢ 0 → (hand_in_of state h s).state ≡ state
refused_changes_nothing = events.refused_stays

pub nobody_changes_nothing : (state : List ℕ) → (turn_of state).side ≡ 0 → (turn_of state).state ≡ state
nobody_changes_nothing = events.nobody_stays

-- That happens: head 3 hands in, then head 0, and 3 again while it waits, which is refused; a turn; 3 hands in again; three turns.
pub some_are_served : named empty
    (hands_in 3 23 ∷ hands_in 0 189 ∷ hands_in 3 25 ∷ takes_turn ∷ hands_in 3 25 ∷ takes_turn ∷ takes_turn ∷ takes_turn ∷ [])
    ≡ some (waiting 3 23) ∷ some (waiting 0 189) ∷ some (waiting 3 25) ∷ none ∷ []
unfolding hand_in_of hand_in_refusal turn_of served queue_of state_of grown entry_refusal is_waiting side_refusal is_side flat_map
some_are_served = refl
