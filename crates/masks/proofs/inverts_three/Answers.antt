-- `inverts_three` meets its contract. Assumes nothing.
use Rattle.masks.proofs.Three.{columns_three, rest_le}
use Rattle.general.proofs.Names.{bit_xor, get_or, ap₂, ◌∙◌, ℕ, ◌+◌, ◌%◌, arith}
use Rattle.masks.proofs.inverts_three.Goals as goal

pub overflow_add-result-2 : goal.overflow_add-result-2
overflow_add-result-2 c = omega (arith, rest_le (c.args.i + 1))

pub overflow_add-result-3 : goal.overflow_add-result-3
overflow_add-result-3 c = omega (arith, rest_le (c.args.i + 1))

pub returns : goal.returns
returns c =
    let t = c.args.table.now in
    let i = c.args.i in
    let k = c.args.c in
    let e = ap₂ (λ (x y : ℕ). bit_xor (bit_xor (bit_xor (bit_xor (get_or t i 0 + get_or t (384 + i) 0 + 1) (get_or t k 0)) (get_or t (384 + k) 0)) x) y % 2)
    c.multiple-below.ensures c.multiple-above.ensures in
    (e ∙ columns_three c.requires.1 c.requires.2 c.requires.3 c.requires.4, omega arith)
