-- The lowest number that passes a test. Assumes nothing.
use Rattle.general.proofs.Names.{◌≡◌, refl, ◌∙◌, Bool, true, false, ℕ, zero, suc, ◌+◌, ◌-◌, ◌<◌, ◌≤◌, arith, ℕ_discrete}
use Rattle.general.proofs.Choices.{tested}
use Rattle.general.specs.Lists.{lowest}

module _ (test : ℕ → Bool) where
  pub lowest_here : (n k : ℕ) → test k ≡ true → lowest test (suc n) k ≡ k
  unfolding lowest
  lowest_here n k e = rw e

  pub lowest_later : (n k : ℕ) → test k ≡ false → lowest test (suc n) k ≡ lowest test n (suc k)
  unfolding lowest
  lowest_later n k e = rw e

  -- it is one of the numbers, or behind them
  pub lowest_from : (n k : ℕ) → k ≤ lowest test n k
  unfolding lowest
  lowest_from zero k = omega arith
  lowest_from (suc n) k =
      tested (test k) (λ e. omega (arith, lowest_here n k e)) (λ e. omega (arith, lowest_later n k e, lowest_from n (suc k)))

  pub lowest_to : (n k : ℕ) → lowest test n k ≤ k + n
  unfolding lowest
  lowest_to zero k = omega arith
  lowest_to (suc n) k =
      tested (test k) (λ e. omega (arith, lowest_here n k e)) (λ e. omega (arith, lowest_later n k e, lowest_to n (suc k)))

  -- it passes the test if it is one of them ..
  pub lowest_passes : (n k : ℕ) → lowest test n k < k + n → test (lowest test n k) ≡ true
  unfolding lowest
  lowest_passes zero k h = absurd (omega arith)
  lowest_passes (suc n) k h =
      tested (test k) (λ e. rw (lowest_here n k e) e)
      (λ e. rw (lowest_later n k e) (lowest_passes n (suc k) (omega (arith, lowest_later n k e))))

  -- .. and none before it does
  pub lowest_first : (n k i : ℕ) → k ≤ i → i < lowest test n k → test i ≡ false
  unfolding lowest
  lowest_first zero k i a b = absurd (omega arith)
  lowest_first (suc n) k i a b =
      tested (test k) (λ e. absurd (omega (arith, lowest_here n k e)))
      (λ e. elim (ℕ_discrete i k) [
        | yes z ↦ rw z e
        | no d ↦ lowest_first n (suc k) i (omega arith) (omega (arith, lowest_later n k e))
      ])

  -- a search among the numbers from k to below m: it stops at k, goes on behind k, or is at its end
  module _ (k m : ℕ) where
    pub search_stops : k < m → test k ≡ true → lowest test (m - k) k ≡ k
    search_stops h e = let n : m - k ≡ suc (m - (k + 1)) = omega arith in rw n (lowest_here (m - (k + 1)) k e)

    pub search_goes_on : k < m → test k ≡ false → lowest test (m - k) k ≡ lowest test (m - (k + 1)) (k + 1)
    search_goes_on h e =
        let n : m - k ≡ suc (m - suc k) = omega arith in
        let s : suc k ≡ k + 1 = omega arith in
        rw (n, ← s) (lowest_later (m - suc k) k e)

    pub search_ends : m ≤ k → lowest test (m - k) k ≡ k
    unfolding lowest
    search_ends h = let n : m - k ≡ 0 = omega arith in rw n

-- tests that agree on the numbers
pub lowest_alike : (f g : ℕ → Bool) (n k : ℕ) → ((i : ℕ) → k ≤ i → i < k + n → f i ≡ g i) → lowest f n k ≡ lowest g n k
unfolding lowest
lowest_alike f g zero k h = refl
lowest_alike f g (suc n) k h =
    rw (h k (omega arith) (omega arith), lowest_alike f g n (suc k) (λ i a b. h i (omega arith) (omega arith)))

-- where g is passed only where f is, the search for g may begin at the lowest that passes f
pub lowest_begins : (f g : ℕ → Bool) (n k : ℕ) → ((i : ℕ) → k ≤ i → i < k + n → f i ≡ false → g i ≡ false)
    → lowest g n k ≡ lowest g (k + n - lowest f n k) (lowest f n k)
unfolding lowest
lowest_begins f g zero k h = (let e : k + 0 - k ≡ 0 = omega arith in rw e)
lowest_begins f g (suc n) k h =
    tested (f k) (λ e. let z : k + suc n - k ≡ suc n = omega arith in rw (lowest_here f n k e, z))
    (λ e. let z : k + suc n ≡ suc k + n = omega arith in
    lowest_later g n k (h k (omega arith) (omega arith) e)
    ∙ lowest_begins f g n (suc k) (λ i a b. h i (omega arith) (omega arith)) ∙ rw (lowest_later f n k e, z))

pub search_begins : (f g : ℕ → Bool) (k m : ℕ) → k ≤ m → ((i : ℕ) → k ≤ i → i < m → f i ≡ false → g i ≡ false)
    → lowest g (m - k) k ≡ lowest g (m - lowest f (m - k) k) (lowest f (m - k) k)
search_begins f g k m h e =
    let n : k + (m - k) ≡ m = omega arith in
    rw n at (lowest_begins f g (m - k) k (λ i a b. e i a (omega arith)))
