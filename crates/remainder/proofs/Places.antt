-- Registers field by field, words moved up, and a row set in a table.
use Rattle.general.proofs.Names.{◌≡◌, sym, ap, ap₂, ◌∙◌, List, ℕ, suc, ◌+◌, ◌*◌, ◌%◌, ◌^◌, ◌≤◌, ◌<◌, arith, add-zero, suc-mul, mul-le-mul_right, mod-lt}
use Rattle.general.proofs.Names.{length, get_or, set, length-set, get_or-set_same, get_or-set_other}
use lib.Pow.{mod-pow-add, shl-shr, low, pow_pos, pow-add}
use Rattle.remainder.specs.declared.Register.{Register}
use Rattle.remainder.specs.Words.{Put}

pub register_eq : {a a' b b' c c' d d' : ℕ} → a ≡ a' → b ≡ b' → c ≡ c' → d ≡ d'
    → ◌≡◌ {A = Register} (record { a = a; b = b; c = c; d = d }) (record { a = a'; b = b'; c = c'; d = d' })
register_eq p q r s = cc

-- what a shift to the left leaves of a word of j + k bits
pub shifted : (j k a : ℕ) → a * 2 ^ k % 2 ^ (j + k) ≡ a % 2 ^ j * 2 ^ k
shifted j k a = mod-pow-add (a * 2 ^ k) j k ∙ ap₂ (λ (y z : ℕ). y % 2 ^ j * 2 ^ k + z) (shl-shr a k) (none a k) ∙ add-zero (a % 2 ^ j * 2 ^ k)
  where
    none : (a k : ℕ) → a * 2 ^ k % 2 ^ k ≡ 0
    none a k = ap (λ (y : ℕ). y % 2 ^ k) (sym (add-zero (a * 2 ^ k))) ∙ low a k (pow_pos k)

pub shifted_lt : (j k a h : ℕ) → h < 2 ^ k → a * 2 ^ k % 2 ^ (j + k) + h < 2 ^ (j + k)
shifted_lt j k a h l =
    let m : suc (a % 2 ^ j) * 2 ^ k ≤ 2 ^ j * 2 ^ k = mul-le-mul_right (2 ^ k) (mod-lt a (pow_pos j)) in
    rw (shifted j k a, pow-add 2 j k) (omega (arith, suc-mul (a % 2 ^ j) (2 ^ k)))

module _ (t : List ℕ) (n : ℕ) (r : Register) (fits : 4 * n + 4 ≤ length t) where
  pub put_is : Put n r t (set (set (set (set t (4 * n) r.a) (4 * n + 1) r.b) (4 * n + 2) r.c) (4 * n + 3) r.d)
  put_is =
      let p₀ = 4 * n in
      let t₁ = set t p₀ r.a in
      let t₂ = set t₁ (p₀ + 1) r.b in
      let t₃ = set t₂ (p₀ + 2) r.c in
      let l₁ : length t₁ ≡ length t = simp length-set in
      let l₂ : length t₂ ≡ length t = simp length-set in
      let l₃ : length t₃ ≡ length t = simp length-set in
      record {
        size = simp length-set;
        here = register_eq
            (get_or-set_other t₃ (p₀ + 3) p₀ r.d 0 (λ e. omega arith) ∙ get_or-set_other t₂ (p₀ + 2) p₀ r.c 0 (λ e. omega arith)
            ∙ get_or-set_other t₁ (p₀ + 1) p₀ r.b 0 (λ e. omega arith) ∙ get_or-set_same t p₀ r.a 0 (omega arith))
            (get_or-set_other t₃ (p₀ + 3) (p₀ + 1) r.d 0 (λ e. omega arith) ∙ get_or-set_other t₂ (p₀ + 2) (p₀ + 1) r.c 0 (λ e. omega arith)
            ∙ get_or-set_same t₁ (p₀ + 1) r.b 0 (omega arith))
            (get_or-set_other t₃ (p₀ + 3) (p₀ + 2) r.d 0 (λ e. omega arith) ∙ get_or-set_same t₂ (p₀ + 2) r.c 0 (omega arith))
            (get_or-set_same t₃ (p₀ + 3) r.d 0 (omega arith));
        other = λ m d.
            let o : (k : ℕ) → k < 4 → get_or (set t₃ (p₀ + 3) r.d) (4 * m + k) 0 ≡ get_or t (4 * m + k) 0 =
            λ k h. get_or-set_other t₃ (p₀ + 3) (4 * m + k) r.d 0 (λ e. d (omega arith)) ∙ get_or-set_other t₂ (p₀ + 2) (4 * m + k) r.c 0 (λ e. d (omega arith))
            ∙ get_or-set_other t₁ (p₀ + 1) (4 * m + k) r.b 0 (λ e. d (omega arith)) ∙ get_or-set_other t p₀ (4 * m + k) r.a 0 (λ e. d (omega arith)) in
            register_eq (rw (← (add-zero (4 * m))) (o 0 (omega arith))) (o 1 (omega arith)) (o 2 (omega arith)) (o 3 (omega arith));
      }
