-- `read_last` meets its contract. Assumes nothing.
use Rattle.general.proofs.Names.{◌≡◌, sym, ap, ◌∙◌, ℕ, ◌+◌, ◌-◌, ◌/◌, arith, get_or}
use lib.Pow.{pow_pos}
use Rattle.bits.proofs.Window.{window, window_none, window_more, window_small, one_shifted, read_window}
use Rattle.bits.proofs.read_last.Goals as goal

pub overflow_add-end : goal.overflow_add-end
overflow_add-end c = omega arith

pub overflow_add-last : goal.overflow_add-last
overflow_add-last c = omega arith

pub loop-i-init : goal.loop-i-init
loop-i-init c =
    let z : c.args.at / 8 - c.args.at / 8 ≡ 0 = omega arith in
    (omega arith, omega arith, window_none _ _ ∙ ap (window _ _) (sym z))

pub overflow_mul-v : goal.overflow_mul-v
overflow_mul-v c = omega (arith, window_small c.args.s.now (c.args.at / 8) (c.loop-i.i - c.args.at / 8) 3 (omega arith) (omega arith))

pub bounds-s-i : goal.bounds-s-i
bounds-s-i c = omega arith

pub overflow_add-v : goal.overflow_add-v
overflow_add-v c = omega (arith, window_small c.args.s.now (c.args.at / 8) (c.loop-i.i - c.args.at / 8) 3 (omega arith) (omega arith))

pub overflow_add-i : goal.overflow_add-i
overflow_add-i c = omega arith

pub loop-i-smaller : goal.loop-i-smaller
loop-i-smaller c = omega arith

pub loop-i-preserved : goal.loop-i-preserved
loop-i-preserved c =
    let k : c.loop-i.i - c.args.at / 8 + 1 ≡ c.loop-i.i + 1 - c.args.at / 8 = omega arith in
    let j : c.args.at / 8 + (c.loop-i.i - c.args.at / 8) ≡ c.loop-i.i = omega arith in
    let b : c.as_usize.result ≡ get_or c.args.s.now (c.args.at / 8 + (c.loop-i.i - c.args.at / 8)) 0 = rw j c.as_usize.ensures.0 in
    (omega arith, omega arith, rw (c.loop-i.invariant.2, ← k) (window_more c.args.s.now (c.args.at / 8) (c.loop-i.i - c.args.at / 8) c.as_usize.result (omega arith) c.as_usize.ensures.1 b))

pub overflow_mul-result : goal.overflow_mul-result
overflow_mul-result c = omega arith

pub overflow_sub-result : goal.overflow_sub-result
overflow_sub-result c = omega arith

pub overflow_shr-result : goal.overflow_shr-result
overflow_shr-result c = omega arith

pub overflow_shl-result : goal.overflow_shl-result
overflow_shl-result c = omega arith

pub nonzero_rem-result : goal.nonzero_rem-result
nonzero_rem-result c = rw (one_shifted c.args.n (omega arith)) (pow_pos c.args.n)

pub returns : goal.returns
returns c =
    let e : c.loop-i.i ≡ (c.args.at + c.args.n + 7) / 8 = omega arith in
    read_window c.args.s.now c.args.at c.args.n c.loop-i.v (omega arith) (omega arith) (c.loop-i.invariant.2 ∙ ap (λ (x : ℕ). window c.args.s.now (c.args.at / 8) (x - c.args.at / 8)) e)
