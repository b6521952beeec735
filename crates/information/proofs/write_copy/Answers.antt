-- `write_copy` meets its contract. Assumes nothing.
use Rattle.information.proofs.Copies.{arm_next, arms_all}
use Rattle.information.proofs.write_copy.Goals as goal

pub returns : goal.returns
returns c = let arm1 = c.write_arm.ensures in
    let arm2 = c.write_arm-2.ensures in
    let arm3 = c.write_arm-3.ensures in
    arms_all (arm_next (arm_next (arm_next arm1 arm2) arm3) c.write_arm-4.ensures)
