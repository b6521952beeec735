-- Lists of hand-ins and turns, from any state of 12 bytes. Assumes nothing.
use Rattle.general.proofs.Names.{◌≡◌, refl, sym, ap, ◌∙◌, ◌≢◌, some, none, List, [], ◌∷◌, ◌++◌, append-nil, append_assoc, flat_map, ℕ, zero}
use Rattle.general.proofs.Names.{suc, ◌+◌, ◌-◌, ◌≤◌, ◌<◌, arith, ℕ_discrete, eq-eqb, ne_eqb, length, get_or, length-append, get_or-append, get_or-append_seam}
use Rattle.general.proofs.Names.{false≢true, ◌⊎◌, inl, inr, ⊎_elim}
use Rattle.symbol.specs.Version.{is_side}
use Rattle.queue.specs.Queue.{Waiting, waiting, is_waiting, entry_refusal, queue_of, state_of, HandIn, hand_in, hand_in_refusal, hand_in_of, Turn, turn}
use Rattle.queue.specs.Queue.{served, turn_of}
use Rattle.queue.specs.Promise.{Event, hands_in, takes_turn, empty, next, after, accepted_at, accepted, whom, named_at, named, someone, served_in}
use Rattle.queue.specs.Promise.{turns_in, WaitsBehind, Waits, ServedAt, ServedWithin}
use Rattle.queue.proofs.Queues.{comes, Accepted, done, more, accepted_snoc, accepted_behind, accepted_low, waits_at, waits_found, refused_waiting}
use Rattle.queue.proofs.Queues.{waiting_refused, at_most_six}
use Rattle.queue.proofs.States.{flat_append, state_length, queue_accepted, queue_of_state}

-- what the equations below say of a part of an answer
abbrev in_number : HandIn → ℕ
in_number x = x.number

abbrev in_state : HandIn → List ℕ
in_state x = x.state

abbrev turn_side : Turn → ℕ
turn_side x = x.side

abbrev turn_state : Turn → List ℕ
turn_state x = x.state

-- ---- what one of them gives

-- a state that is none
module _ (state : List ℕ) (short : length state ≢ 12) where
  pub hand_in_short : (h s : ℕ) → hand_in_of state h s ≡ hand_in 2 state
  unfolding hand_in_of hand_in_refusal
  hand_in_short h s = rw (ne_eqb (length state) 12 short)

  pub turn_short : turn_of state ≡ turn 2 0 0 state
  unfolding turn_of
  turn_short = rw (ne_eqb (length state) 12 short)

module _ (state : List ℕ) (long : length state ≡ 12) where
  module _ (h s : ℕ) where
    pub hand_in_refused : (n : ℕ) → n ≡ entry_refusal (queue_of state) (waiting h s) → n ≢ 0 → hand_in_of state h s ≡ hand_in n state
    unfolding hand_in_of hand_in_refusal
    hand_in_refused n e r = rw (eq-eqb (length state) 12 long, ← e, ne_eqb n 0 r)

    pub hand_in_accepted : entry_refusal (queue_of state) (waiting h s) ≡ 0 → hand_in_of state h s ≡ hand_in 0 (state_of (queue_of state ++ (waiting h s ∷ [])))
    unfolding hand_in_of hand_in_refusal
    hand_in_accepted e = rw (eq-eqb (length state) 12 long, e)

  pub turn_nobody : queue_of state ≡ [] → turn_of state ≡ turn 0 0 0 state
  unfolding turn_of served
  turn_nobody e = rw (eq-eqb (length state) 12 long, e)

  module _ (w : Waiting) (q : List Waiting) (e : queue_of state ≡ w ∷ q) where
    pub turn_serves : turn_of state ≡ turn 0 w.head w.side (state_of q)
    unfolding turn_of served
    turn_serves = rw (eq-eqb (length state) 12 long, e)

    -- the others wait on
    rest_accepted : Accepted [] q
    unfolding is_waiting
    rest_accepted = by (rw e at (queue_accepted state))
      where
        by : Accepted [] (w ∷ q) → Accepted [] q
        by (more r a) = accepted_behind (w ∷ []) [] q a (λ h z. refl)

    pub rest_waits : queue_of (state_of q) ≡ q
    rest_waits = queue_of_state q rest_accepted

    -- 0 is no side
    sided : w.side ≢ 0
    unfolding is_side
    sided z = by (rw e at (queue_accepted state))
      where
        by : Accepted [] (w ∷ q) → ⊥
        by (more r a) = false≢true (rw z at (comes [] w r).sided)

  -- what the new queue is made of
  module _ (h s : ℕ) (e : entry_refusal (queue_of state) (waiting h s) ≡ 0) where
    longer : Accepted [] (queue_of state ++ (waiting h s ∷ []))
    longer = accepted_snoc [] (queue_of state) (waiting h s) (queue_accepted state) e

    pub waits_last : queue_of (hand_in_of state h s).state ≡ queue_of state ++ (waiting h s ∷ [])
    waits_last = rw (hand_in_accepted h s e) (queue_of_state _ longer)

-- ---- one after the other

-- a queue is empty or has a first
whoever : {A : Type 0} (q : List Waiting) → (q ≡ [] → A) → ((w : Waiting) (r : List Waiting) → q ≡ w ∷ r → A) → A
whoever [] f g = f refl
whoever (w ∷ r) f g = g w r refl

-- whether a hand-in is refused
module _ (state : List ℕ) (h s : ℕ) where
  refusal_tested : {A : Type 0} → (entry_refusal (queue_of state) (waiting h s) ≡ 0 → A) → (entry_refusal (queue_of state) (waiting h s) ≢ 0 → A) → A
  refusal_tested f g = elim (ℕ_discrete (entry_refusal (queue_of state) (waiting h s)) 0) [ yes e ↦ f e | no e ↦ g e ]

-- the state stays, or is that of a queue
next_left : (state : List ℕ) (e : Event) → length state ≡ 12 → (next state e ≡ state) ⊎ ((q : List Waiting) × Accepted [] q × (next state e ≡ state_of q))
next_left state (hands_in h s) l =
    refusal_tested state h s (λ e. inr (_, longer state l h s e, ap in_state (hand_in_accepted state l h s e)))
    (λ e. inl (ap in_state (hand_in_refused state l h s _ refl e)))
next_left state takes_turn l =
    whoever (queue_of state) (λ e. inl (ap turn_state (turn_nobody state l e)))
    (λ w q e. inr (q, rest_accepted state l w q e, ap turn_state (turn_serves state l w q e)))

pub next_length : (state : List ℕ) (e : Event) → length state ≡ 12 → length (next state e) ≡ 12
next_length state e l = ⊎_elim (λ x. ap length x ∙ l) (λ (q, a, x). ap length x ∙ state_length q (at_most_six q a)) (next_left state e l)

pub after_length : (state : List ℕ) (es : List Event) → length state ≡ 12 → length (after state es) ≡ 12
after_length state [] l = l
after_length state (e ∷ es) l = after_length (next state e) es (next_length state e l)

-- behind the queue stand zeros
next_clean : (state : List ℕ) (e : Event) → length state ≡ 12 → state ≡ state_of (queue_of state) → next state e ≡ state_of (queue_of (next state e))
next_clean state e l c =
    ⊎_elim (λ x. x ∙ c ∙ ap (λ (s : List ℕ). state_of (queue_of s)) (sym x)) (λ (q, a, x). x ∙ ap state_of (sym (ap queue_of x ∙ queue_of_state q a))) (next_left state e l)

pub after_clean : (state : List ℕ) (es : List Event) → length state ≡ 12 → state ≡ state_of (queue_of state) → after state es ≡ state_of (queue_of (after state es))
after_clean state [] l c = c
after_clean state (e ∷ es) l c = after_clean (next state e) es (next_length state e l) (next_clean state e l c)

-- those that an event serves, and then those that wait after it, are those that waited before, and then those that it accepts
next_queue : (state : List ℕ) (e : Event) → length state ≡ 12 → flat_map someone (named_at state e) ++ queue_of (next state e) ≡ queue_of state ++ accepted_at state e
unfolding flat_map
next_queue state (hands_in h s) l =
    refusal_tested state h s (λ e. rw (waits_last state l h s e, hand_in_accepted state l h s e))
    (λ e. let x = hand_in_refused state l h s _ refl e in ap queue_of (ap in_state x) ∙ (rw (x, ne_eqb _ 0 e, append-nil)))
next_queue state takes_turn l =
    whoever (queue_of state) (λ e. ap (λ (x : Turn). someone (whom x) ++ [] ++ queue_of x.state) (turn_nobody state l e) ∙ (rw append-nil))
    (λ w q e. ap (λ (x : Turn). someone (whom x) ++ [] ++ queue_of x.state) (turn_serves state l w q e)
    ∙ (rw (ne_eqb _ 0 (sided state l w q e), rest_waits state l w q e, e, append-nil)))

pub all_queue : (state : List ℕ) (es : List Event) → length state ≡ 12 → served_in state es ++ queue_of (after state es) ≡ queue_of state ++ accepted state es
unfolding flat_map
all_queue state [] l = rw append-nil
all_queue state (e ∷ es) l =
    rw (
      flat_append someone (named_at state e) (named (next state e) es),
      append_assoc,
      all_queue (next state e) es (next_length state e l),
      ← append_assoc,
      next_queue state e l,
      append_assoc,
    )

-- one before which j others wait is named by the turn behind j others
pub waits_its_turn : (state : List ℕ) (es : List Event) (j : ℕ) → length state ≡ 12 → j < length (queue_of state) → j < turns_in es
    → get_or (named state es) j none ≡ some (get_or (queue_of state) j (waiting 0 0))
unfolding flat_map
waits_its_turn state [] j l a b = absurd (omega arith)
waits_its_turn state (hands_in h s ∷ es) j l a b =
    let new = accepted_at state (hands_in h s) in
    let q : queue_of (next state (hands_in h s)) ≡ queue_of state ++ new = next_queue state (hands_in h s) l in
    waits_its_turn (next state (hands_in h s)) es j (next_length state (hands_in h s) l) (omega (arith, ap length q, length-append (queue_of state) new)) b
    ∙ ap some (ap (λ (x : List Waiting). get_or x j (waiting 0 0)) q ∙ get_or-append (queue_of state) new (waiting 0 0) j a)
waits_its_turn state (takes_turn ∷ es) zero l a b =
    whoever (queue_of state) (λ e. absurd (omega (arith, ap length e)))
    (λ w q e. ap whom (turn_serves state l w q e) ∙ (rw (ne_eqb _ 0 (sided state l w q e), e)))
waits_its_turn state (takes_turn ∷ es) (suc j) l a b =
    whoever (queue_of state) (λ e. absurd (omega (arith, ap length e)))
    (λ w q e. let r = rest_waits state l w q e in
    ap (λ (x : Turn). get_or (named x.state es) j none) (turn_serves state l w q e)
    ∙ waits_its_turn (state_of q) es j (state_length q (at_most_six q (rest_accepted state l w q e))) (omega (arith, ap length e, ap length r)) (omega arith)
    ∙ (rw (r, e)))

-- ---- in the words of the theorem

pub empty_queue : queue_of empty ≡ []
unfolding state_of flat_map
empty_queue = queue_of_state [] done

pub empty_clean : empty ≡ state_of (queue_of empty)
unfolding state_of flat_map
empty_clean = rw empty_queue

module _ (state : List ℕ) (long : length state ≡ 12) where
  pub zero_nobody : (turn_of state).side ≡ 0 → queue_of state ≡ []
  zero_nobody z =
      whoever (queue_of state) (λ e. e) (λ w q e. absurd (sided state long w q e (sym (ap turn_side (turn_serves state long w q e)) ∙ z)))

  pub turn_comes : (later : List Event) (j h s : ℕ) → WaitsBehind state j h s → j < turns_in later → ServedAt state later (j + 1) h s
  turn_comes later j h s (a, e) b =
      let z : j + 1 - 1 ≡ j = omega arith in (omega arith, omega arith, rw z (waits_its_turn state later j long a b ∙ ap some e))

  pub served_soon : (later : List Event) (h s : ℕ) → Waits state h s → 6 ≤ turns_in later → ServedWithin 6 state later h s
  served_soon later h s (j, w) b =
      let six = at_most_six (queue_of state) (queue_accepted state) in (j + 1, omega (arith, w.0), turn_comes later j h s w (omega (arith, w.0)))

  pub waits_behind : (h s : ℕ) → (hand_in_of state h s).number ≡ 0 → WaitsBehind (hand_in_of state h s).state (length (queue_of state)) h s
  waits_behind h s z =
      refusal_tested state h s (λ e. let q = waits_last state long h s e in
      (omega (arith, ap length q, length-append (queue_of state) (waiting h s ∷ [])), rw q (get_or-append_seam (queue_of state) (waiting h s) [] (waiting 0 0))))
      (λ e. absurd (e (sym (ap in_number (hand_in_refused state long h s _ refl e)) ∙ z)))

  -- 17 is for those that wait ..
  pub waiting_seventeen : (h s t : ℕ) → Waits state h s → (hand_in_of state h t).number ≡ 17
  waiting_seventeen h s t (j, (a, e)) =
      let f = ap (λ (w : Waiting). w.head) e in
      let r = refused_waiting (queue_of state) (waiting h t) (rw f at (accepted_low [] (queue_of state) (queue_accepted state) j a)) (waits_at h (queue_of state) j a f) in
      ap in_number (hand_in_refused state long h t 17 (sym r) (λ z. omega arith))

  -- .. and for nobody else
  pub seventeen_waiting : (h t : ℕ) → (hand_in_of state h t).number ≡ 17 → (s : ℕ) × Waits state h s
  seventeen_waiting h t z =
      refusal_tested state h t (λ e. absurd (omega (arith, z, ap in_number (hand_in_accepted state long h t e))))
      (λ e. let r = sym (ap in_number (hand_in_refused state long h t _ refl e)) ∙ z in
      let f = waits_found h (queue_of state) (waiting_refused (queue_of state) (waiting h t) r) in
      ((get_or (queue_of state) f.0 (waiting 0 0)).side, (f.0, (f.1, ap (λ (x : ℕ). waiting x (get_or (queue_of state) f.0 (waiting 0 0)).side) f.2))))

-- ---- of any bytes

pub refused_stays : (state : List ℕ) (h s : ℕ) → (hand_in_of state h s).number ≢ 0 → (hand_in_of state h s).state ≡ state
refused_stays state h s r =
    elim (ℕ_discrete (length state) 12) [
      | yes l ↦ refusal_tested state h s (λ e. absurd (r (ap in_number (hand_in_accepted state l h s e))))
          (λ e. ap in_state (hand_in_refused state l h s _ refl e))
      | no l ↦ ap in_state (hand_in_short state l h s)
    ]

pub nobody_stays : (state : List ℕ) → (turn_of state).side ≡ 0 → (turn_of state).state ≡ state
nobody_stays state z =
    elim (ℕ_discrete (length state) 12) [
      | yes l ↦ ap turn_state (turn_nobody state l (zero_nobody state l z))
      | no l ↦ ap turn_state (turn_short state l)
    ]
