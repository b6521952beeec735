-- `read_arm` meets its contract. Assumes nothing.
use Rattle.general.proofs.Names.{get_or, ℕ, ◌<◌, ◌≡◌, ap, ◌∙◌, arith}
use Rattle.information.proofs.Copies.{lowest_at, lowest_lt, number_small, number_more}
use Rattle.information.specs.Inner.{lowest, module_of, number_from}
use Rattle.information.proofs.read_arm.Goals as goal
use Rattle.information.proofs.read_arm.Goals.{In-loop-n}

-- the bits so far are a small number
small : (c : In-loop-n) → c.loop-n.w < 17179869184
small c = let g = c.args.square.now in
    omega (arith, number_small (module_of c.args.side c.args.second (lowest g)) (λ k. lowest_lt g _) c.loop-n.n (omega arith))

pub loop-n-init : goal.loop-n-init
loop-n-init c = (c.requires.3, c.requires.5)

pub info_position-i-requires : goal.info_position-i-requires
info_position-i-requires c = (c.requires.0, c.requires.1, omega arith)

pub overflow_mul-w : goal.overflow_mul-w
overflow_mul-w c = omega (arith, small (goal.at.overflow_mul-w c).In-loop-n)

pub bounds-square-i : goal.bounds-square-i
bounds-square-i c = omega arith

pub overflow_add-w : goal.overflow_add-w
overflow_add-w c = omega (arith, small (goal.at.overflow_add-w c).In-loop-n, c.byte_as_u64.ensures)

pub overflow_add-n : goal.overflow_add-n
overflow_add-n c = omega arith

pub loop-n-smaller : goal.loop-n-smaller
loop-n-smaller c = omega arith

pub loop-n-preserved : goal.loop-n-preserved
loop-n-preserved c =
    let g = c.args.square.now in
    let bit = c.byte_as_u64.ensures ∙ lowest_at g c.info_position-i.result ∙ ap (λ (k : ℕ). get_or (lowest g) k 0) c.info_position-i.ensures.0 in
    (omega arith, number_more (module_of c.args.side c.args.second (lowest g)) c.loop-n.n c.loop-n.invariant.1 bit)

pub returns : goal.returns
returns c =
    c.loop-n.invariant.1 ∙ ap (number_from (module_of c.args.side c.args.second (lowest c.args.square.now)))
    (let e : c.loop-n.n ≡ c.args.to = omega arith in e)
