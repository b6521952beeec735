-- `from_data_with` meets its contract. Assumes nothing.
use Rattle.segments.specs.Segments.{cut, lacking}
use Rattle.parse.proofs.Outcomes.{too_long, is_broken_lem, is_empty, is_payload_full, is_script_full, is_read, is_copied}
use Rattle.parse.proofs.from_data_with.Goals as goal

pub returns-then-data-gt-MAX_DATA : goal.returns-then-data-gt-MAX_DATA
returns-then-data-gt-MAX_DATA c = too_long c.args.«data».now _ _ c.if-data-gt-MAX_DATA.true

pub returns-then-n-eq0 : goal.returns-then-n-eq0
returns-then-n-eq0 c =
    is_empty c.args.«data».now _ _ c.if-data-gt-MAX_DATA.false _ _ c.parse-first.result
    c.parse-first.new.out c.parse-first.new.script c.parse-first.ensures c.in-Done.n c.in-Done.m c.in-Done.is c.if-n-eq0.true

pub returns-then-payload-n : goal.returns-then-payload-n
returns-then-payload-n c =
    is_payload_full c.args.«data».now _ _ c.if-data-gt-MAX_DATA.false _ _ c.parse-first.result
    c.parse-first.new.out c.parse-first.new.script c.parse-first.ensures c.in-Done.n c.in-Done.m c.in-Done.is c.if-n-eq0.false c.if-payload-n.true

pub returns-then-script-m : goal.returns-then-script-m
returns-then-script-m c =
    is_script_full c.args.«data».now _ _ c.if-data-gt-MAX_DATA.false _ _ c.parse-first.result
    c.parse-first.new.out c.parse-first.new.script c.parse-first.ensures c.in-Done.n c.in-Done.m c.in-Done.is c.if-n-eq0.false c.if-payload-n.false c.if-script-m.true

pub returns-then-spare-n : goal.returns-then-spare-n
returns-then-spare-n c =
    is_read c.args.«data».now _ _ c.if-data-gt-MAX_DATA.false _ _ _
    _ c.parse-first.new.script c.parse-first.ensures c.in-Done.n c.in-Done.m c.in-Done.is c.if-n-eq0.false c.if-payload-n.false c.if-script-m.false
    c.parse.result c.parse.new.out c.parse.new.script c.parse.ensures

pub returns-then-other-m : goal.returns-then-other-m
returns-then-other-m c =
    is_read c.args.«data».now _ _ c.if-data-gt-MAX_DATA.false _ _ _
    _ c.parse-first.new.script c.parse-first.ensures c.in-Done.n c.in-Done.m c.in-Done.is c.if-n-eq0.false c.if-payload-n.false c.if-script-m.false
    c.parse-then-other-m.result c.parse-then-other-m.new.out c.parse-then-other-m.new.script c.parse-then-other-m.ensures

pub returns-else-other-m : goal.returns-else-other-m
returns-else-other-m c =
    is_copied c.args.«data».now _ _ c.if-data-gt-MAX_DATA.false _ _ _
    c.parse-first.new.out c.parse-first.new.script c.parse-first.ensures c.in-Done.n c.in-Done.m c.in-Done.is c.if-n-eq0.false c.if-payload-n.false c.if-script-m.false
    (rw c.parse-first.auto.out at c.if-spare-n.false)
    (rw c.parse-first.auto.script at c.if-other-m.false) c.copy.new.to c.copy-in-Done.new.to
    c.copy.ensures c.copy-in-Done.ensures

pub returns-in-Cut : goal.returns-in-Cut
returns-in-Cut c =
    is_broken_lem c.args.«data».now _ _ c.if-data-gt-MAX_DATA.false _ _ _
    _ _ c.parse-first.ensures cut c.in-Cut.is

pub returns-in-Lacking : goal.returns-in-Lacking
returns-in-Lacking c =
    is_broken_lem c.args.«data».now _ _ c.if-data-gt-MAX_DATA.false _ _ _
    _ _ c.parse-first.ensures lacking c.in-Lacking.is
