-- `word_at` meets its contract. Assumes nothing.
use Rattle.general.proofs.Names.{◌≡◌, refl, ℕ, zero, suc, ◌<◌, arith}
use Rattle.remainder.specs.declared.Register.{Register}
use Rattle.remainder.specs.Words.{word_at}
use Rattle.remainder.proofs.four_words.word_at.Goals as goal

last_word : (r : Register) (k : ℕ) → 2 < k → r.d ≡ word_at r k
unfolding word_at
last_word r zero h = absurd (omega arith)
last_word r (suc zero) h = absurd (omega arith)
last_word r (suc (suc zero)) h = absurd (omega arith)
last_word r (suc (suc (suc k))) h = refl

pub returns-then-k-eq0 : goal.returns-then-k-eq0
unfolding word_at
returns-then-k-eq0 c = rw c.if-k-eq0.true

pub returns-then-k-eq1 : goal.returns-then-k-eq1
unfolding word_at
returns-then-k-eq1 c = rw c.if-k-eq1.true

pub returns-then-k-eq2 : goal.returns-then-k-eq2
unfolding word_at
returns-then-k-eq2 c = rw c.if-k-eq2.true

pub returns : goal.returns
returns c = last_word _ _ (omega arith)
