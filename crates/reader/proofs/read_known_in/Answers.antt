-- `read_known_in` meets its contract. Assumes nothing.
use Rattle.general.proofs.Names.{◌≡◌, sym, ap, ◌∙◌, true, ℕ, ◌≤◌, arith, not-true, not-false}
use Rattle.information.specs.Information.{is_info}
use Rattle.decoding.specs.Inner.{PassesFirstRefusals, body_or1}
use Rattle.reader.proofs.FirstRefusals.{known_receipt, known_range, known_early, known_fits, known_left, early_small}
use Rattle.reader.proofs.read_known_in.Goals as goal
use Rattle.reader.proofs.read_known_in.Goals.{Else-not-is_info}

-- version, level and mask are in their ranges
ranged : (c : Else-not-is_info) → let m = c.args.m in
    (is_info m.version m.level m.mask ≡ true) × (m.version ≤ 84)
ranged c = let e = not-false _ c.if-not-is_info.false-raw in (sym c.is_info.ensures.0 ∙ e, (c.is_info.ensures.1 e).0)

pub returns-then-receipt-ne12 : goal.returns-then-receipt-ne12
returns-then-receipt-ne12 c = known_receipt c.args.square.now c.args.m.version c.args.m.level c.args.m.mask _ _ _ c.if-receipt-ne12.true

pub returns-then-not-is_info : goal.returns-then-not-is_info
returns-then-not-is_info c =
    known_range c.args.square.now c.args.m.version c.args.m.level c.args.m.mask _ _ _ c.if-receipt-ne12.false
    (sym c.is_info.ensures.0 ∙ not-true _ c.if-not-is_info.true-raw) _ _ c.refuse.ensures

pub side-requires : goal.side-requires
side-requires c = (ranged (goal.at.side-requires c).Else-not-is_info).1

pub look_at-early-requires : goal.look_at-early-requires
look_at-early-requires c = omega (arith, c.side.ensures, (ranged (goal.at.look_at-early-requires c).Else-not-is_info).1)

pub refuse-requires-then-early-ne0 : goal.refuse-requires-then-early-ne0
refuse-requires-then-early-ne0 c = (c.if-receipt-ne12.false, early_small c.args.square.now c.side.result _ c.look_at-early.ensures.0)

pub returns-then-early-ne0 : goal.returns-then-early-ne0
returns-then-early-ne0 c =
    known_early c.args.square.now c.args.m.version c.args.m.level c.args.m.mask _ _ _ c.if-receipt-ne12.false (ranged (goal.at.returns-then-early-ne0 c).Else-not-is_info).0 _ _
    c.side.ensures c.look_at-early.ensures.0 c.if-early-ne0.true _ _ c.refuse-then-early-ne0.ensures

pub finish_in-requires : goal.finish_in-requires
finish_in-requires c =
    let fits = known_fits c.args.square.now c.args.m.version c.args.m.level c.args.m.mask c.args.payload.now c.args.script.now c.args.receipt.now
    c.if-receipt-ne12.false (ranged (goal.at.finish_in-requires c).Else-not-is_info).0 _ _ c.side.ensures c.look_at-early.ensures.0 c.if-early-ne0.false in
    let passes-first : PassesFirstRefusals c.args.m c.args.square.now = record {
      low = fits.low;
      high = fits.high;
      level = fits.level;
      mask = fits.mask;
      near = omega (arith, c.requires.1);
      size = fits.size;
      modules = fits.modules;
    } in
    (passes-first, c.if-receipt-ne12.false, c.requires.0.room _ fits.high fits.size, c.look_at-early.ensures.1)

pub returns : goal.returns
returns c =
    c.finish_in.ensures
    ∙ ap (λ (d : ℕ). body_or1 (record { version = c.args.m.version; level = c.args.m.level; mask = c.args.m.mask; distance = d }) c.args.square.now
    c.args.payload.now c.args.script.now) c.requires.1
    ∙ known_left c.args.square.now c.args.m.version c.args.m.level c.args.m.mask _ _ _ c.if-receipt-ne12.false (ranged (goal.at.returns c).Else-not-is_info).0 _ _
    c.side.ensures c.look_at-early.ensures.0 c.if-early-ne0.false
