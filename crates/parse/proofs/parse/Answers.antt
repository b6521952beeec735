-- `parse` meets its contract. Assumes nothing.
use Rattle.general.proofs.Names.{◌≡◌, ◌∙◌, refl, arith, ◌≤◌, ◌*◌, ◌+◌, length}
use Rattle.bits.proofs.Words.{WordAt, word_read, word_few}
use Rattle.bits.proofs.Inside.{read_inside}
use Rattle.segments.specs.Segments.{Fault, cut, lacking, segments_of}
use Rattle.segments.specs.Positions.{counted, stepped, Parses}
use Rattle.segments.proofs.Steps.{parsing_start, parse_few, parse_end, parse_stop, parse_room, parse_on}
use Rattle.parse.proofs.parse.Goals as goal
use Rattle.parse.proofs.parse.Goals.{After-segment-next, In-On, In-Value}

-- what was read, where a word was read
word : (c : In-Value) → WordAt 4 c.loop-mode.at c.in-Value.mode c.args.s.now
word c = let s = c.args.s.now in
    let e = c.mode-got.ensures ∙ read_inside s c.loop-mode.at 4 (omega arith) (omega arith) (omega arith) in
    word_read 4 c.loop-mode.at s c.mode-got.result e c.in-Value.mode (omega arith) (omega arith) c.in-Value.is

-- both buffers keep their lengths
kept : (c : After-segment-next) →
    (length c.segment-next.new.out ≡ length c.args.out.now) × (length c.segment-next.new.script ≡ length c.args.script.now)
kept c = (c.segment-next.auto.out ∙ c.loop-mode.invariant.0, c.segment-next.auto.script ∙ c.loop-mode.invariant.1)

-- where the segment ended
room : (c : In-On) (w : WordAt 4 c.loop-mode.at c.in-Value.mode c.args.s.now) →
    (c.loop-mode.at + 4 ≤ c.in-On.place)
    × (c.in-On.place ≤ 8 * length c.args.s.now)
    × (c.in-On.k ≤ c.in-On.place) × (c.in-On.j ≤ c.in-On.place)
room c w = parse_room c.loop-mode.invariant.5 w c.if-mode-eq0.false c.segment-next.result c.segment-next.new.out
    c.segment-next.new.script c.segment-next.ensures
    c.in-On.is

-- where a segment is cut or lacking
stop : (c : After-segment-next) (w : WordAt 4 c.loop-mode.at c.in-Value.mode c.args.s.now) (bad : Fault) → c.segment-next.result ≡ stepped bad
    →
    Parses 0 0 c.args.out.now c.args.script.now (segments_of c.args.s.now) (counted bad) c.segment-next.new.out c.segment-next.new.script
stop c w bad e = parse_stop c.loop-mode.invariant.5 w c.if-mode-eq0.false c.segment-next.result c.segment-next.new.out
    c.segment-next.new.script c.segment-next.ensures bad e

pub loop-mode-init : goal.loop-mode-init
loop-mode-init c = (refl, refl, omega arith, omega arith, omega arith, parsing_start c.args.s.now c.args.out.now c.args.script.now)

pub shape_of-out-in_default : goal.shape_of-out-in_default
shape_of-out-in_default c = c.loop-mode.invariant.0

pub shape_of-script-in_default : goal.shape_of-script-in_default
shape_of-script-in_default c = c.loop-mode.invariant.1

pub returns-in_default : goal.returns-in_default
returns-in_default c =
    let s = c.args.s.now in
    let e = c.mode-got.ensures ∙ read_inside s c.loop-mode.at 4 (omega arith) (omega arith) (omega arith) in
    parse_few c.loop-mode.invariant.5 (word_few 4 c.loop-mode.at s c.mode-got.result e c.in_default.is)

pub shape_of-out-then-mode-eq0 : goal.shape_of-out-then-mode-eq0
shape_of-out-then-mode-eq0 c = c.loop-mode.invariant.0

pub shape_of-script-then-mode-eq0 : goal.shape_of-script-then-mode-eq0
shape_of-script-then-mode-eq0 c = c.loop-mode.invariant.1

pub returns-then-mode-eq0 : goal.returns-then-mode-eq0
returns-then-mode-eq0 c = parse_end c.loop-mode.invariant.5 (word (goal.at.returns-then-mode-eq0 c).In-Value) c.if-mode-eq0.true

pub overflow_add-place : goal.overflow_add-place
overflow_add-place c = omega arith

pub segment-next-requires : goal.segment-next-requires
segment-next-requires c = let w = word (goal.at.segment-next-requires c).In-Value in
    (omega arith, omega arith, omega arith, omega arith, omega arith)

pub loop-mode-smaller : goal.loop-mode-smaller
loop-mode-smaller c = let r = room (goal.at.loop-mode-smaller c).In-On (word (goal.at.loop-mode-smaller c).In-Value) in
    let m = (word (goal.at.loop-mode-smaller c).In-Value).room in
    omega arith

pub loop-mode-preserved : goal.loop-mode-preserved
loop-mode-preserved c = let r = room (goal.at.loop-mode-preserved c).In-On (word (goal.at.loop-mode-preserved c).In-Value) in
    let d = parse_on c.loop-mode.invariant.5 (word (goal.at.loop-mode-preserved c).In-Value) c.if-mode-eq0.false c.segment-next.result c.segment-next.new.out
    c.segment-next.new.script c.segment-next.ensures in
    ((kept (goal.at.loop-mode-preserved c).After-segment-next).0, (kept (goal.at.loop-mode-preserved c).After-segment-next).1, omega arith, omega arith, omega arith, d c.in-On.is)

pub shape_of-out-in-Cut : goal.shape_of-out-in-Cut
shape_of-out-in-Cut c = (kept (goal.at.shape_of-out-in-Cut c).After-segment-next).0

pub shape_of-script-in-Cut : goal.shape_of-script-in-Cut
shape_of-script-in-Cut c = (kept (goal.at.shape_of-script-in-Cut c).After-segment-next).1

pub returns-in-Cut : goal.returns-in-Cut
returns-in-Cut c = stop (goal.at.returns-in-Cut c).After-segment-next (word (goal.at.returns-in-Cut c).In-Value) cut c.in-Cut.is

pub shape_of-out-in-Lacking : goal.shape_of-out-in-Lacking
shape_of-out-in-Lacking c = (kept (goal.at.shape_of-out-in-Lacking c).After-segment-next).0

pub shape_of-script-in-Lacking : goal.shape_of-script-in-Lacking
shape_of-script-in-Lacking c = (kept (goal.at.shape_of-script-in-Lacking c).After-segment-next).1

pub returns-in-Lacking : goal.returns-in-Lacking
returns-in-Lacking c = stop (goal.at.returns-in-Lacking c).After-segment-next (word (goal.at.returns-in-Lacking c).In-Value) lacking c.in-Lacking.is
