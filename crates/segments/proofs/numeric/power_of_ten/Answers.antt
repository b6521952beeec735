-- `power_of_ten` meets its contract. Assumes nothing.
use Rattle.general.proofs.Names.{◌≡◌, ℕ, ◌<◌, arith}
use Rattle.segments.proofs.numeric.power_of_ten.Goals as goal

three : (k : ℕ) → k < 4 → (k ≡ 0 → ⊥) → (k ≡ 1 → ⊥) → (k ≡ 2 → ⊥) → k ≡ 3
three k h a b c = omega arith

pub returns-then-k-eq0 : goal.returns-then-k-eq0
returns-then-k-eq0 c = (simp c.if-k-eq0.true, omega arith)

pub returns-then-k-eq1 : goal.returns-then-k-eq1
returns-then-k-eq1 c = (simp c.if-k-eq1.true, omega arith)

pub returns-then-k-eq2 : goal.returns-then-k-eq2
returns-then-k-eq2 c = (simp c.if-k-eq2.true, omega arith)

pub returns : goal.returns
returns c = let a = c.args.k in
    let h1 = c.if-k-eq0.false in
    let h2 = c.if-k-eq1.false in
    let h3 = c.if-k-eq2.false in
    let e : a ≡ 3 = three a c.requires h1 h2 h3 in
    (simp e, omega arith)
