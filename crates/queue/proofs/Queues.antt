-- Queues: when one is refused that comes to a queue, queues of those that were accepted, and how many there can be. Assumes nothing.
use Rattle.general.proofs.Names.{◌≡◌, refl, sym, ◌∙◌, Bool, true, false, cond, ◌||◌, List, [], ◌∷◌, ◌++◌, append-nil, append_assoc, ℕ, zero, suc}
use Rattle.general.proofs.Names.{◌+◌, ◌≤◌, ◌<◌, arith, ℕ_discrete, ltb, eqb, ltb-false, le-ltb, eq-eqb, ne_eqb, length, length-append, false≢true}
use Rattle.general.proofs.Names.{true≢false, dec_le, leb, lt-leb, eqb-true, get_or}
use Rattle.general.proofs.Choices.{tested}
use Rattle.symbol.specs.Version.{is_side, side_refusal}
use Rattle.queue.specs.Queue.{Waiting, waiting, is_waiting, entry_refusal, grown}

pub waits_append : (h : ℕ) (q : List Waiting) (w : Waiting) → is_waiting h (q ++ (w ∷ [])) ≡ (is_waiting h q || eqb w.head h)
unfolding is_waiting
waits_append h [] w = tested (eqb w.head h) (λ e. rw e) (λ e. rw e)
waits_append h (x ∷ q) w = tested (eqb x.head h) (λ e. rw e) (λ e. rw e (waits_append h q w))

-- one that is not refused
pub record Comes (q : List Waiting) (w : Waiting) : Type 0 where
  pub low : w.head ≤ 5
  pub new : is_waiting w.head q ≡ false
  pub sided : is_side w.side ≡ true

-- what 0 and 17 say
refusals : (q : List Waiting) (w : Waiting) → (entry_refusal q w ≡ 0 → Comes q w) × (entry_refusal q w ≡ 17 → is_waiting w.head q ≡ true)
unfolding entry_refusal side_refusal
refusals q w = by (ltb 5 w.head) (is_waiting w.head q) (is_side w.side) refl refl refl
  where
    by : (a b c : Bool) → ltb 5 w.head ≡ a → is_waiting w.head q ≡ b → is_side w.side ≡ c
        → let n : ℕ = cond a 16 (cond b 17 (cond c 0 1)) in (n ≡ 0 → Comes q w) × (n ≡ 17 → is_waiting w.head q ≡ true)
    by true b c x y z = (λ r. absurd (omega arith), λ r. absurd (omega arith))
    by false true c x y z = (λ r. absurd (omega arith), λ r. y)
    by false false true x y z = (λ r. record { low = ltb-false 5 w.head x; new = y; sided = z }, λ r. absurd (omega arith))
    by false false false x y z = (λ r. absurd (omega arith), λ r. absurd (omega arith))

pub comes : (q : List Waiting) (w : Waiting) → entry_refusal q w ≡ 0 → Comes q w
comes q w = (refusals q w).0

pub waiting_refused : (q : List Waiting) (w : Waiting) → entry_refusal q w ≡ 17 → is_waiting w.head q ≡ true
waiting_refused q w = (refusals q w).1

pub not_refused : (q : List Waiting) (w : Waiting) → Comes q w → entry_refusal q w ≡ 0
unfolding entry_refusal side_refusal
not_refused q w c = rw (le-ltb 5 w.head c.low, c.new, c.sided)

pub refused_waiting : (q : List Waiting) (w : Waiting) → w.head ≤ 5 → is_waiting w.head q ≡ true → entry_refusal q w ≡ 17
unfolding entry_refusal
refused_waiting q w l e = rw (le-ltb 5 w.head l, e)

-- a side fits a byte
pub side_low : (s : ℕ) → is_side s ≡ true → s ≤ 189
unfolding is_side
side_low s e = elim (dec_le s 189) [
  | yes l ↦ l
  | no l ↦ absurd (false≢true (tested (leb 23 s) (λ x. (rw (x, lt-leb s 189 (omega arith)) at e)) (λ x. (rw x at e))))
]

-- ---- those that come to a queue one behind the other, none refused

pub data Accepted : List Waiting → List Waiting → Type 0 where
  done : {p : List Waiting} → Accepted p []
  more : {p q : List Waiting} {w : Waiting} → entry_refusal p w ≡ 0 → Accepted (p ++ (w ∷ [])) q → Accepted p (w ∷ q)

pub accepted_snoc : (p q : List Waiting) (w : Waiting) → Accepted p q → entry_refusal (p ++ q) w ≡ 0 → Accepted p (q ++ (w ∷ []))
accepted_snoc p [] w done e = more (rw append-nil at e) done
accepted_snoc p (x ∷ q) w (more r a) e = more r (accepted_snoc (p ++ (x ∷ [])) q w a (rw append_assoc e))

-- fewer waited before
pub accepted_behind : (p o q : List Waiting) → Accepted p q → ((h : ℕ) → is_waiting h p ≡ false → is_waiting h o ≡ false) → Accepted o q
accepted_behind p o [] done less = done
accepted_behind p o (x ∷ q) (more r a) less =
    let c = comes p x r in
    more (not_refused o x (record { low = c.low; new = less x.head c.new; sided = c.sided }))
    (accepted_behind (p ++ (x ∷ [])) (o ++ (x ∷ [])) q a (λ h e. waits_append h o x ∙ both h (sym (waits_append h p x) ∙ e)))
  where
    both : (h : ℕ) → (is_waiting h p || eqb x.head h) ≡ false → (is_waiting h o || eqb x.head h) ≡ false
    both h = by (is_waiting h p) refl
      where
        by : (b : Bool) → is_waiting h p ≡ b → (b || eqb x.head h) ≡ false → (is_waiting h o || eqb x.head h) ≡ false
        by true y z = absurd (true≢false z)
        by false y z = rw (less h y) z

-- their heads are numbers of heads
pub accepted_low : (p q : List Waiting) → Accepted p q → (j : ℕ) → j < length q → (get_or q j (waiting 0 0)).head ≤ 5
accepted_low p [] done j h = absurd (omega arith)
accepted_low p (w ∷ q) (more r a) zero h = (comes p w r).low
accepted_low p (w ∷ q) (more r a) (suc j) h = accepted_low (p ++ (w ∷ [])) q a j (omega arith)

-- ---- who waits, by places

pub waits_at : (h : ℕ) (q : List Waiting) (j : ℕ) → j < length q → (get_or q j (waiting 0 0)).head ≡ h → is_waiting h q ≡ true
unfolding is_waiting
waits_at h [] j a e = absurd (omega arith)
waits_at h (w ∷ q) zero a e = rw (eq-eqb _ _ e)
waits_at h (w ∷ q) (suc j) a e = tested (eqb w.head h) (λ t. rw t) (λ t. rw t (waits_at h q j (omega arith) e))

pub waits_found : (h : ℕ) (q : List Waiting) → is_waiting h q ≡ true → (j : ℕ) × (j < length q) × ((get_or q j (waiting 0 0)).head ≡ h)
unfolding is_waiting
waits_found h [] e = absurd (false≢true e)
waits_found h (w ∷ q) e =
    tested (eqb w.head h) (λ t. (0, omega arith, eqb-true _ _ t))
    (λ t. let f = waits_found h q (rw t at e) in (suc f.0, omega (arith, f.1), f.2))

-- ---- at most six wait

-- how many of the heads below n do not wait
free : ℕ → List Waiting → ℕ
free zero q = 0
free (suc n) q = cond (is_waiting n q) 0 1 + free n q

free_same : (n : ℕ) (q : List Waiting) (w : Waiting) → n ≤ w.head → free n (q ++ (w ∷ [])) ≡ free n q
unfolding free
free_same zero q w h = refl
free_same (suc n) q w h = rw (waits_append n q w, ne_eqb w.head n (λ z. omega arith), free_same n q w (omega arith)) (tested (is_waiting n q) (λ e. rw e) (λ e. rw e))

free_fewer : (n : ℕ) (q : List Waiting) (w : Waiting) → w.head < n → is_waiting w.head q ≡ false → suc (free n (q ++ (w ∷ []))) ≡ free n q
unfolding free
free_fewer zero q w h e = absurd (omega arith)
free_fewer (suc n) q w h e =
    elim (ℕ_discrete w.head n) [
      | yes d ↦ rw (waits_append n q w, eq-eqb w.head n d, free_same n q w (omega arith), ← d, e) (omega arith)
      | no d ↦ rw (waits_append n q w, ne_eqb w.head n d) (let ih = free_fewer n q w (omega arith) e in
          tested (is_waiting n q) (λ t. rw t (omega arith)) (λ t. rw t (omega arith)))
    ]

within : (p q : List Waiting) → Accepted p q → length q ≤ free 6 p
within p [] done = omega arith
within p (w ∷ q) (more r a) = let c = comes p w r in omega (arith, free_fewer 6 p w (omega (arith, c.low)) c.new, within (p ++ (w ∷ [])) q a)

pub at_most_six : (q : List Waiting) → Accepted [] q → length q ≤ 6
unfolding free is_waiting
at_most_six q a = within [] q a

pub room_for_one : (q : List Waiting) (w : Waiting) → Accepted [] q → entry_refusal q w ≡ 0 → length q ≤ 5
room_for_one q w a e = omega (arith, at_most_six (q ++ (w ∷ [])) (accepted_snoc [] q w a e), length-append q (w ∷ []))

-- ---- the queue that entries make

-- it has entries that are accepted behind those before them ..
pub grown_accepted : (p ws : List Waiting) → (q : List Waiting) × (grown p ws ≡ p ++ q) × Accepted p q
unfolding grown
grown_accepted p [] = ([], sym (append-nil p), done)
grown_accepted p (w ∷ ws) =
    elim (ℕ_discrete (entry_refusal p w) 0) [
      | yes e ↦ let g = grown_accepted (p ++ (w ∷ [])) ws in (w ∷ g.0, rw (eq-eqb (entry_refusal p w) 0 e) (g.1 ∙ append_assoc p (w ∷ []) g.0), more e g.2)
      | no e ↦ ([], rw (ne_eqb (entry_refusal p w) 0 e) (sym (append-nil p)), done)
    ]

-- .. and all of them, where an entry behind them is refused or there is none
pub grown_all : (p q ws : List Waiting) → Accepted p q → grown (p ++ q) ws ≡ p ++ q → grown p (q ++ ws) ≡ p ++ q
unfolding grown
grown_all p [] ws done e = rw append-nil (rw append-nil at e)
grown_all p (w ∷ q) ws (more r a) e =
    rw (eq-eqb (entry_refusal p w) 0 r) (grown_all (p ++ (w ∷ [])) q ws a (rw append_assoc e) ∙ append_assoc p (w ∷ []) q)
