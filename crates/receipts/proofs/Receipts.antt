-- The receipt, byte by byte. Assumes nothing.
use Rattle.general.proofs.Names.{◌≡◌, sym, ap, ◌∙◌, ◌≢◌, List, [], ◌∷◌, ℕ, ◌/◌, ◌%◌, ◌≤◌, ◌<◌, arith, eq-eqb, ne_eqb, length, replicate, ext_get_or}
use Rattle.reed_solomon.specs.Inner.{copied}
use Rattle.general.specs.Each.{Each}
use Rattle.marks.specs.Receipt.{receipt_of, refusal_receipt}
use Rattle.receipts.specs.Inner.{receipt_in}
use Rattle.receipts.specs.declared.Mark.{Mark}
use Rattle.receipts.specs.declared.SquareAnswer.{SquareAnswer}

byte : (x n : ℕ) → x ≡ n % 256 → n < 256 → x ≡ n
byte x n e h = omega arith

pub accepted_is : (v l k c d p s : ℕ) → v < 256 → l < 256 → k < 256 → c < 65536 → d < 256 → p < 65536 → s < 65536
    → (x₁ x₂ x₃ x₄ x₅ x₆ x₇ x₈ x₉ x₁₀ : ℕ) → x₁ ≡ v % 256 → x₂ ≡ l % 256 → x₃ ≡ k % 256 → x₄ ≡ c / 256 % 256 → x₅ ≡ c % 256 → x₆ ≡ d % 256
    → x₇ ≡ p / 256 % 256 → x₈ ≡ p % 256 → x₉ ≡ s / 256 % 256 → x₁₀ ≡ s % 256
    → 0 ∷ x₁ ∷ x₂ ∷ x₃ ∷ x₄ ∷ x₅ ∷ x₆ ∷ x₇ ∷ x₈ ∷ x₉ ∷ x₁₀ ∷ 0 ∷ [] ≡ receipt_of v l k c d p s
unfolding receipt_of
accepted_is v l k c d p s hv hl hk hc hd hp hs x₁ x₂ x₃ x₄ x₅ x₆ x₇ x₈ x₉ x₁₀ e₁ e₂ e₃ e₄ e₅ e₆ e₇ e₈ e₉ e₁₀ =
    let f₁ = byte x₁ v e₁ hv in
    let f₂ = byte x₂ l e₂ hl in
    let f₃ = byte x₃ k e₃ hk in
    let f₄ = byte x₄ (c / 256) e₄ (omega arith) in
    let f₆ = byte x₆ d e₆ hd in
    let f₇ = byte x₇ (p / 256) e₇ (omega arith) in
    let f₉ = byte x₉ (s / 256) e₉ (omega arith) in
    cc

pub refusal_is : (n x : ℕ) → n < 256 → x ≡ n % 256 → x ∷ 0 ∷ 0 ∷ 0 ∷ 0 ∷ 0 ∷ 0 ∷ 0 ∷ 0 ∷ 0 ∷ 0 ∷ 0 ∷ [] ≡ refusal_receipt n
unfolding refusal_receipt
refusal_is n x h e = ap (λ (y : ℕ). y ∷ replicate 11 0) (byte x n e h)

-- twelve bytes copied
pub put_end : (i : ℕ) (r₀ r bytes : List ℕ) → Each (copied bytes) i r₀ r → 12 ≤ i → length r₀ ≡ 12 → length bytes ≡ 12 → r ≡ bytes
put_end i r₀ r bytes E h a b = ext_get_or 0 r bytes (E.size ∙ a ∙ sym b) (λ k l. E.done k (omega (arith, E.size)))

pub in_accepted : (m : Mark) (t : SquareAnswer) → t.number ≡ 0
    → receipt_of m.version m.level m.mask t.count m.distance t.payload t.script ≡ receipt_in m t
unfolding receipt_in
in_accepted m t e = simp (eq-eqb t.number 0 e)

pub in_refused : (m : Mark) (t : SquareAnswer) → t.number ≢ 0 → refusal_receipt t.number ≡ receipt_in m t
unfolding receipt_in
in_refused m t d = simp (ne_eqb t.number 0 d)
