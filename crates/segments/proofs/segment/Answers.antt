-- `segment` meets its contract. Assumes nothing.
use Rattle.general.proofs.Names.{◌-◌, arith}
use Rattle.segments.proofs.Steps.{command_length, eci_on, eci_bound, eci_stop, run_on, run_stop, inside}
use Rattle.segments.specs.Segments.{cut, lacking}
use Rattle.segments.proofs.segment.Goals as goal

pub put_eci-requires : goal.put_eci-requires
put_eci-requires c =
    let l = eci_bound c.args.s.now c.args.place.at c.args.place.payload c.args.place.script c.args.out.now c.args.script.now c.args.mode (omega arith) (omega arith)
    c.eci_value-designator.result c.in-Done.at c.in-Done.v c.eci_value-designator.ensures c.in-Done.is in
    (omega arith, omega arith)

pub returns-in-Done : goal.returns-in-Done
returns-in-Done c =
    eci_on c.args.s.now c.args.place.at c.args.place.payload c.args.place.script c.args.out.now c.args.script.now c.args.mode (omega arith) (omega arith)
    c.if-mode-eq-ECI.true c.in-Done.at c.in-Done.v c.eci_value-designator.result c.put_eci.new.script c.eci_value-designator.ensures c.in-Done.is c.put_eci.ensures

pub returns-in-Cut : goal.returns-in-Cut
returns-in-Cut c =
    eci_stop c.args.s.now c.args.place.at c.args.place.payload c.args.place.script c.args.out.now c.args.script.now c.args.mode (omega arith) (omega arith)
    c.if-mode-eq-ECI.true cut c.eci_value-designator.result c.args.out.now c.args.script.now c.eci_value-designator.ensures c.in-Cut.is

pub returns-in-Lacking : goal.returns-in-Lacking
returns-in-Lacking c =
    eci_stop c.args.s.now c.args.place.at c.args.place.payload c.args.place.script c.args.out.now c.args.script.now c.args.mode (omega arith) (omega arith)
    c.if-mode-eq-ECI.true lacking c.eci_value-designator.result c.args.out.now c.args.script.now c.eci_value-designator.ensures c.in-Lacking.is

pub overflow_sub-k : goal.overflow_sub-k
overflow_sub-k c =
    let i = inside c.args.s.now c.args.place.at c.args.place.payload c.run_of_mode-read.result c.in-Done-read.at c.in-Done-read.k c.run_of_mode-read.ensures.inside c.in-Done-read.is in
    omega arith

pub put_command-used-requires : goal.put_command-used-requires
put_command-used-requires c =
    let i = inside c.args.s.now c.args.place.at c.args.place.payload c.run_of_mode-read.result c.in-Done-read.at c.in-Done-read.k c.run_of_mode-read.ensures.inside c.in-Done-read.is in
    (omega arith, omega arith, omega arith)

pub overflow_add-result-in-Done-read : goal.overflow_add-result-in-Done-read
overflow_add-result-in-Done-read c = omega (arith, command_length c.args.mode (c.in-Done-read.k - c.args.place.payload))

pub returns-in-Done-read : goal.returns-in-Done-read
returns-in-Done-read c =
    let i = inside c.args.s.now c.args.place.at c.args.place.payload c.run_of_mode-read.result c.in-Done-read.at c.in-Done-read.k c.run_of_mode-read.ensures.inside c.in-Done-read.is in
    run_on c.args.s.now c.args.place.at c.args.place.payload c.args.place.script c.args.out.now c.args.script.now c.args.mode (omega arith) (omega arith)
    c.if-mode-eq-ECI.false c.run_of_mode-read.result c.run_of_mode-read.new.out c.run_of_mode-read.ensures.left c.in-Done-read.at c.in-Done-read.k c.put_command-used.result c.put_command-used.new.script c.in-Done-read.is i.1 i.3
    c.put_command-used.ensures.0 c.put_command-used.ensures.1

pub returns-in-Cut-read : goal.returns-in-Cut-read
returns-in-Cut-read c =
    run_stop c.args.s.now c.args.place.at c.args.place.payload c.args.place.script c.args.out.now c.args.script.now c.args.mode (omega arith) (omega arith)
    c.if-mode-eq-ECI.false c.run_of_mode-read.result c.run_of_mode-read.new.out c.run_of_mode-read.ensures.left cut c.run_of_mode-read.new.out c.args.script.now c.in-Cut-read.is

pub returns-in-Lacking-read : goal.returns-in-Lacking-read
returns-in-Lacking-read c =
    run_stop c.args.s.now c.args.place.at c.args.place.payload c.args.place.script c.args.out.now c.args.script.now c.args.mode (omega arith) (omega arith)
    c.if-mode-eq-ECI.false c.run_of_mode-read.result c.run_of_mode-read.new.out c.run_of_mode-read.ensures.left lacking c.run_of_mode-read.new.out c.args.script.now c.in-Lacking-read.is
