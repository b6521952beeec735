-- `layout` meets its contract.
use Rattle.symbol.proofs.Answer.{too_low, too_high, too_short, small, large}
use Rattle.symbol.proofs.Coordinates.{square_le}
use Rattle.symbol.specs.Version.{side_of}
use Rattle.general.proofs.Names.{length, ◌≡◌, sym, ap, subst, ◌∙◌, ℕ, ◌*◌, ◌<◌, ◌≤◌, arith}
use Rattle.symbol.proofs.layout.Goals as goal

pub returns-then-version-lt-MIN : goal.returns-then-version-lt-MIN
returns-then-version-lt-MIN c = too_low _ _ c.if-version-lt-MIN.true

pub returns-then-version-gt-MAX : goal.returns-then-version-gt-MAX
returns-then-version-gt-MAX c = too_high _ _ c.if-version-lt-MIN.false c.if-version-gt-MAX.true

pub overflow_mul-side : goal.overflow_mul-side
overflow_mul-side c = omega (arith, square_le c.side-side.result (omega arith))

pub returns-then-out-side : goal.returns-then-out-side
returns-then-out-side c =
    too_short _ c.args.out.now c.if-version-lt-MIN.false c.if-version-gt-MAX.false
    (subst (λ (k : ℕ). length c.args.out.now < k * k) c.side-side.ensures c.if-out-side.true)

pub returns-then-version-lt4 : goal.returns-then-version-lt4
returns-then-version-lt4 c =
    small _ c.args.out.now c.if-version-lt-MIN.false c.if-version-gt-MAX.false
    (subst (λ (k : ℕ). k * k ≤ length c.args.out.now) c.side-side.ensures c.if-out-side.false) c.side-side.ensures c.corners.ensures
    c.if-version-lt4.true

pub alignment-requires : goal.alignment-requires
alignment-requires c =
    let spacing = c.spacing_of.ensures in
    let e : c.side-side.result ≡ c.spacing_of.result.side = c.side-side.ensures ∙ sym (spacing.0.side_is ∙ ap side_of spacing.1) in
    record {
      spaced = spacing.0;
      room = omega (
        arith,
        subst (λ (k : ℕ). k * k ≤ length
            c.args.out.now) e c.if-out-side.false,
      );
    }

pub returns : goal.returns
returns c =
    large _ c.args.out.now c.if-version-lt-MIN.false c.if-version-gt-MAX.false
    (subst (λ (k : ℕ). k * k ≤ length c.args.out.now) c.side-side.ensures c.if-out-side.false) c.side-side.ensures c.corners.ensures c.if-version-lt4.false
    c.spacing_of.ensures.1 c.spacing_of.ensures.0.side_is
    c.alignment.ensures
