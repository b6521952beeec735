-- `run_of_mode` meets its contract. Assumes nothing.
use Rattle.general.proofs.Names.{refl}
use Rattle.segments.proofs.Steps.{run_numeric, run_text, run_bytes, run_one, run_two, run_double, run_four, run_none}
use Rattle.segments.proofs.run_of_mode.Goals as goal

pub returns-in-1 : goal.returns-in-1
returns-in-1 c = rw (run_numeric _ _ _ _ _ c.in-1.is) c.numeric.ensures

pub returns-in-2 : goal.returns-in-2
returns-in-2 c = rw (run_text _ _ _ _ _ c.in-2.is) c.text_mode.ensures

pub returns-in-3 : goal.returns-in-3
returns-in-3 c = rw (run_bytes _ _ _ _ _ c.in-3.is) c.bytes_mode.ensures

pub returns-in-4 : goal.returns-in-4
returns-in-4 c = rw (c.region_count.ensures, run_one _ _ _ _ _ c.in-4.is)
    c.region_one.ensures

pub returns-in-5 : goal.returns-in-5
returns-in-5 c = rw (c.region_count-in-5.ensures, run_two _ _ _ _ _ c.in-5.is)
    c.region_two.ensures

pub returns-in-6 : goal.returns-in-6
returns-in-6 c = rw (run_double _ _ _ _ _ c.in-6.is) c.double_byte.ensures

pub returns-in-7 : goal.returns-in-7
returns-in-7 c = rw (run_four _ _ _ _ _ c.in-7.is) c.four_byte.ensures

pub returns-in_default : goal.returns-in_default
returns-in_default c = let k = c.in_default.in_default-own.rest in
    rw (run_none _ _ _ _ _ k.0.0.0.0.0.0.1 k.0.0.0.0.0.1 k.0.0.0.0.1 k.0.0.0.1 k.0.0.1 k.0.1 k.1) record { left = refl; inside = tt }
