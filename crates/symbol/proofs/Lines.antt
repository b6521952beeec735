-- The lines of a version: what the tables say of k, r and m, the steps, and where each line lies.
use Rattle.general.proofs.Names.{◌≡◌, refl, sym, ap, subst, ◌∙◌, Bool, ℕ, zero, suc, ◌+◌, ◌-◌, ◌*◌, ◌<◌, ◌≤◌, suc-mul, zero-mul, mul-le-mul_right, arith, T}
use Rattle.general.proofs.Names.{leb, eqb, leb→le, eqb→eq, List, length, lt-ltb, le-ltb}
use lib.IntN.{pos, ◌-ℤ◌}
use Rattle.symbol.specs.Version.{side_of}
use Rattle.symbol.specs.declared.Spacing.{Spacing}
use Rattle.symbol.specs.Layout.{ks, rs, ms, m_of, step_of, line_of, column_line}
use Rattle.symbol.specs.Inner.{Spaced, FitsSquare, k_of, r_of}
use Rattle.symbol.proofs.Coordinates.{difference}
use Rattle.general.proofs.Finite.{up_to, every}

-- what holds of versions 4 to 84 by a test that antt computes
tested : (f : ℕ → Bool) → T (up_to (λ n. f (n + 4)) 81) → (v : ℕ) → 4 ≤ v → v ≤ 84 → T (f v)
tested f t v lo hi = let e : v - 4 + 4 ≡ v = omega arith in subst (λ (n : ℕ). T (f n)) e (every (λ n. f (n + 4)) 81 t (v - 4) (omega arith))

pub record Table (v : ℕ) : Type 0 where
  pub k_pos : 1 ≤ k_of v
  pub k_le : k_of v ≤ 22
  pub r_two : 2 ≤ r_of v
  pub r_le : r_of v ≤ 23
  pub m_le : m_of v ≤ 10
  pub last : m_of v * k_of v + r_of v ≡ side_of v

pub tabled : (v : ℕ) → 4 ≤ v → v ≤ 84 → Table v
unfolding m_of ks rs ms
tabled v lo hi =
    record {
      k_pos = leb→le 1 (k_of v) (tested (λ n. leb 1 (k_of n)) tt v lo hi);
      k_le = leb→le (k_of v) 22 (tested (λ n. leb (k_of n) 22) tt v lo hi);
      r_two = leb→le 2 (r_of v) (tested (λ n. leb 2 (r_of n)) tt v lo hi);
      r_le = leb→le (r_of v) 23 (tested (λ n. leb (r_of n) 23) tt v lo hi);
      m_le = leb→le (m_of v) 10 (tested (λ n. leb (m_of n) 10) tt v lo hi);
      last = eqb→eq (m_of v * k_of v + r_of v) (side_of v) (tested (λ n. eqb (m_of n * k_of n + r_of n) (side_of n)) tt v lo hi);
    }

-- the numbers as the code has them
pub spaced : (p : Spacing) → 4 ≤ p.version → p.version ≤ 84 → p.side ≡ side_of p.version → p.k ≡ k_of p.version
    → p.m ≡ m_of p.version
    → p.r ≡ p.side - p.m * p.k → Spaced p
spaced p lo hi s k m r =
    let t = tabled p.version lo hi in
    let e : p.m * p.k ≡ m_of p.version * k_of p.version = rw (m, k) refl in
    record {
      low = lo;
      high = hi;
      side_is = s;
      k_is = k;
      r_is = omega arith;
      m_is = m;
      k_in = (omega arith, omega arith);
      r_in = (omega arith, omega arith);
      m_le = omega arith;
      last = omega arith;
    }

pub fits_square : {p : Spacing} {g g' : List ℕ} → FitsSquare p g → length g' ≡ length g → FitsSquare p g'
fits_square q e = record { spaced = q.spaced; room = omega arith }

module _ {p : Spacing} (q : Spaced p) where
  pub near_step : (n : ℕ) → n < p.m → step_of p.version n ≡ p.k
  unfolding step_of
  near_step n h = simp (lt-ltb n (m_of p.version) (omega arith)) (sym q.k_is)

  pub far_step : (n : ℕ) → p.m ≤ n → step_of p.version n ≡ p.r - 1
  unfolding step_of
  far_step n h = simp (le-ltb n (m_of p.version) (omega arith)) (ap (λ (r : ℕ). r - 1) (sym q.r_is))

  pub line_near : (n : ℕ) → n ≤ p.m → line_of p.version n ≡ n * p.k
  unfolding line_of
  line_near zero h = sym (zero-mul p.k)
  line_near (suc n) h = let e = line_near n (omega arith) in omega (arith, near_step n h, suc-mul n p.k)

  pub near_side : (n : ℕ) → n ≤ p.m → n * p.k + 2 ≤ p.side
  near_side n h = omega (arith, mul-le-mul_right p.k h)

  pub line_last : (n : ℕ) → p.m < n → n < p.m + 2 → line_of p.version n ≡ p.side - 1
  unfolding line_of
  line_last n a b =
      let e : n ≡ suc p.m = omega arith in ap (line_of p.version) e ∙ omega
      (arith, line_near p.m (omega arith), far_step p.m (omega arith))

  pub column_is : (n l : ℕ) → l ≡ line_of p.version n → l < p.side → pos (p.side - 1 - l) ≡ column_line p.version n
  column_is n l e h =
      sym (difference (p.side - 1) l (omega arith)) ∙ ap (λ (k : ℕ). pos (p.side - 1) -ℤ pos k) e
      ∙ ap (λ (k : ℕ). pos (k - 1) -ℤ pos (line_of p.version n)) q.side_is
