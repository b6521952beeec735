-- Laws of the gf16_mul in GF(16).
use Rattle.general.proofs.Names.{◌≡◌, refl, sym, ap, ap₂, subst, ◌∙◌, ℕ, suc, ◌+◌, ◌-◌, ◌*◌, ◌/◌, ◌<◌, ◌≤◌, ◌%◌, add-one, Bool, true, false, cond, arith}
use Rattle.general.proofs.Names.{ltb→lt, ltb, bit_xor}
use Rattle.information.specs.Information.{least_of, times_x, product_from, generator_times, remainder}
use Rattle.information.specs.Inner.{Found, plus_if_odd}
use Rattle.information.specs.declared.Best.{Best}
use Rattle.general.proofs.Finite.{every}

pub eight : (a : ℕ) → 16 ≤ 2 * a → a < 16 → bit_xor (2 * a) 0x13 < 16
eight a l h =
    let t : bit_xor (2 * (a - 8 + 8)) 0x13 < 16 = ltb→lt _ _ (every (λ n. ltb (bit_xor (2 * (n + 8)) 0x13) 16) 8 tt (a - 8) (omega arith)) in
    let e : a - 8 + 8 ≡ a = omega arith in
    rw e at t

-- one turn of the gf16Mul's loop
pub one_more : (p a b i : ℕ) {p' a' : ℕ} → i < 4 → p' ≡ plus_if_odd p a b → a' ≡ times_x a → product_from (4 - i) p a b ≡ product_from (4 - (i + 1)) p' a' (b / 2)
unfolding product_from
one_more p a b i h e f =
    let n : 4 - i ≡ suc (4 - (i + 1)) = omega arith in
    rw (n, e, f)

pub shown : (r n : ℕ) {s : ℕ} → s ≡ generator_times (bit_xor n (r / 4096)) → bit_xor (r % 4096 * 16) s ≡ remainder r n
unfolding remainder
shown r n e = ap (bit_xor (r % 4096 * 16)) e

-- one word more of the nearest word's loop
pub least_more : (d : ℕ → ℕ) (k x : ℕ) {b r : Best} → Found d (least_of d k) b → x ≡ d (k + 1) → k + 1 < 16
    → (r.word ≡ cond (ltb x b.distance) (k + 1) b.word) × (r.distance ≡ cond (ltb x b.distance) x b.distance) → Found d (least_of d (k + 1)) r
unfolding least_of
least_more d k x {b} {r} f e h c = subst (λ (n : ℕ). Found d (least_of d n) r) (sym (add-one k)) (by (ltb (d (suc k)) (d (least_of d k))) refl)
  where
    x_is : x ≡ d (suc k)
    x_is = e ∙ ap d (add-one k)

    test : (t : Bool) → ltb (d (suc k)) (d (least_of d k)) ≡ t → ltb x b.distance ≡ t
    test t p = ap₂ ltb x_is f.at ∙ p

    by : (t : Bool) → ltb (d (suc k)) (d (least_of d k)) ≡ t → Found d (cond t (suc k) (least_of d k)) r
    by true p =
        let w : r.word ≡ k + 1 = c.0 ∙ ap (λ (t : Bool). cond t (k + 1) b.word) (test true p) in
        record { word_is = w ∙ add-one k; at = c.1 ∙ ap (λ (t : Bool). cond t x b.distance) (test true p) ∙ x_is; small = omega arith }
    by false p =
        let w : r.word ≡ b.word = c.0 ∙ ap (λ (t : Bool). cond t (k + 1) b.word) (test false p) in
        record { word_is = w ∙ f.word_is; at = c.1 ∙ ap (λ (t : Bool). cond t x b.distance) (test false p) ∙ f.at; small = omega arith }
