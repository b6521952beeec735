-- `eci_value` meets its contract. Assumes nothing.
use Rattle.general.proofs.Names.{refl, sym, ◌∙◌, arith}
use Rattle.segments.proofs.Designators.{eci_cut, eci_one, eci_one_cut, eci_two, eci_two_cut, eci_three, eci_lacks}
use Rattle.segments.proofs.eci.eci_value.Goals as goal

pub returns-then-all-from : goal.returns-then-all-from
returns-then-all-from c = rw (eci_cut c.args.s.now c.args.from (omega arith)) refl

pub returns-then-bit-eq0 : goal.returns-then-bit-eq0
returns-then-bit-eq0 c = rw (eci_one c.args.s.now c.args.from (sym c.bit.ensures ∙ c.if-bit-eq0.true)) c.eci_field.ensures

pub returns-then-all-from-2 : goal.returns-then-all-from-2
returns-then-all-from-2 c = rw (eci_one_cut c.args.s.now c.args.from (λ e. c.if-bit-eq0.false (c.bit.ensures ∙ e)) (omega arith)) refl

pub returns-then-bit-eq0-2 : goal.returns-then-bit-eq0-2
returns-then-bit-eq0-2 c =
    rw (eci_two c.args.s.now c.args.from (λ e. c.if-bit-eq0.false (c.bit.ensures ∙ e))
    (sym c.bit-2.ensures ∙ c.if-bit-eq0-2.true))
    c.eci_field-then-bit-eq0-2.ensures

pub returns-then-all-from-3 : goal.returns-then-all-from-3
returns-then-all-from-3 c =
    rw (eci_two_cut c.args.s.now c.args.from (λ e. c.if-bit-eq0.false (c.bit.ensures ∙ e))
    (λ e. c.if-bit-eq0-2.false (c.bit-2.ensures ∙ e)) (omega arith)) refl

pub returns-then-bit-eq0-3 : goal.returns-then-bit-eq0-3
returns-then-bit-eq0-3 c =
    rw (eci_three c.args.s.now c.args.from (λ e. c.if-bit-eq0.false (c.bit.ensures ∙ e))
    (λ e. c.if-bit-eq0-2.false (c.bit-2.ensures ∙ e)) (sym c.bit-3.ensures ∙ c.if-bit-eq0-3.true))
    c.eci_field-then-bit-eq0-3.ensures

pub returns : goal.returns
returns c =
    rw (eci_lacks c.args.s.now c.args.from (λ e. c.if-bit-eq0.false (c.bit.ensures ∙ e))
    (λ e. c.if-bit-eq0-2.false (c.bit-2.ensures ∙ e)) (λ e. c.if-bit-eq0-3.false (c.bit-3.ensures ∙ e))) refl
