-- `add_digits` meets its contract. Assumes nothing.
use Rattle.general.proofs.Names.{sym, ap, ◌∙◌, ℕ, arith, bit_xor}
use Rattle.remainder.specs.Words.{digits, behind}
use Rattle.remainder.proofs.Steps.{add_next, no_digits, all_digits}
use Rattle.remainder.proofs.add_digits.Goals as goal

pub loop-i-init : goal.loop-i-init
loop-i-init c = (omega arith, λ poly x e h R z. ap (λ (v : ℕ). behind poly x (digits poly x e 4 v) c.args.r) (no_digits h c.args.x) ∙ z)

pub loop-i-preserved : goal.loop-i-preserved
loop-i-preserved c =
    let y = c.args.x in (
      omega arith,
      λ poly x e h R z. ap (behind poly x _) c.add_digit-n.ensures
          ∙ add_next poly x _ R e h y _ _ (omega arith) (c.loop-i.invariant.1 poly x e h R z),
    )

pub returns : goal.returns
returns c =
    let y = c.args.x in
    record {
      adds = λ poly x e h R z. ap (λ (v : ℕ). behind poly x (digits poly x e 4 (bit_xor h v)) c.loop-i.n)
          (sym (all_digits y c.loop-i.i (omega arith) (omega arith) (omega arith))) ∙ c.loop-i.invariant.1 poly x e h R z;
    }
