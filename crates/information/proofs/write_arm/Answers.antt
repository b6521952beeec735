-- `write_arm` meets its contract. Assumes nothing.
use Rattle.general.proofs.Names.{length-set, ℕ, ◌≡◌, refl, subst, ◌∙◌, arith}
use Rattle.information.proofs.Copies.{write_more}
use Rattle.information.specs.Inner.{ArmWritten}
use Rattle.information.proofs.write_arm.Goals as goal

pub loop-n-init : goal.loop-n-init
loop-n-init c = (omega arith, record { is = λ g e. e }, refl)

pub info_position-i-requires : goal.info_position-i-requires
info_position-i-requires c = (c.requires.0, c.requires.1, omega arith)

pub bit-requires : goal.bit-requires
bit-requires c = omega arith

pub bounds-square-i : goal.bounds-square-i
bounds-square-i c = omega arith

pub overflow_add-n : goal.overflow_add-n
overflow_add-n c = omega arith

pub loop-n-smaller : goal.loop-n-smaller
loop-n-smaller c = omega arith

pub loop-n-preserved : goal.loop-n-preserved
loop-n-preserved c = (
  omega arith,
  record {
    is = λ g e. write_more c.args.side c.args.second c.args.word c.loop-n.n g (c.loop-n.invariant.1.is g e)
        c.info_position-i.ensures.0 c.bit.ensures;
  },
  length-set c.loop-n.square c.info_position-i.result c.bit.result ∙ c.loop-n.invariant.2,
)

pub shape_of-square : goal.shape_of-square
shape_of-square c = c.loop-n.invariant.2

pub returns : goal.returns
returns c =
    let n : c.loop-n.n ≡ c.args.to = omega arith in
    subst (λ (k : ℕ). ArmWritten c.args.side c.args.second c.args.word c.args.from k c.args.square.now
    c.loop-n.square) n c.loop-n.invariant.1
