-- `kept` meets its contract. Assumes nothing.
use Rattle.general.proofs.Names.{◌≡◌, ap, ◌∙◌, ℕ, zero, suc, ◌-◌, ◌*◌, ◌/◌, ◌%◌, ◌^◌, ◌≤◌, ◌<◌, arith, zero-div}
use Rattle.remainder.specs.declared.Register.{Register}
use Rattle.remainder.specs.Words.{word_at, Kept}
use Rattle.remainder.proofs.four_words.kept.Goals as goal

kept_words : (r : Register) (w : ℕ) → w ≤ 4 → ((j : ℕ) → w ≤ j → word_at r j ≡ 0) → Kept r (8 * w)
kept_words r w h z = record {
  few = omega arith;
  zeros = λ i a b. ap (λ (y : ℕ). y / 2 ^ (56 - 8 * (i % 8)) % 256) (z _ (omega arith)) ∙ ap (λ (y : ℕ). y % 256) (zero-div (2 ^ (56 - 8 * (i % 8))));
}

-- the last words are zero
zeros : (r : Register) (w : ℕ) → 1 ≤ w → r.d ≡ 0 → (w < 3 → r.c ≡ 0) → (w < 2 → r.b ≡ 0) → (j : ℕ) → w ≤ j → word_at r j ≡ 0
unfolding word_at
zeros r w o d c b zero h = absurd (omega arith)
zeros r w o d c b (suc zero) h = b (omega arith)
zeros r w o d c b (suc (suc zero)) h = c (omega arith)
zeros r w o d c b (suc (suc (suc j))) h = d

pub returns-then-r-ne0 : goal.returns-then-r-ne0
returns-then-r-ne0 c = record { few = omega arith; zeros = λ i a b. absurd (omega arith) }

pub returns-then-r-ne0-2 : goal.returns-then-r-ne0-2
returns-then-r-ne0-2 c = kept_words _ 3 (omega arith) (zeros _ 3 (omega arith) (omega arith) (λ h. absurd (omega arith)) (λ h. absurd (omega arith)))

pub returns-then-r-ne0-3 : goal.returns-then-r-ne0-3
returns-then-r-ne0-3 c = kept_words _ 2 (omega arith) (zeros _ 2 (omega arith) (omega arith) (λ h. omega arith) (λ h. absurd (omega arith)))

pub returns : goal.returns
returns c = kept_words _ 1 (omega arith) (zeros _ 1 (omega arith) (omega arith) (λ h. omega arith) (λ h. omega arith))
