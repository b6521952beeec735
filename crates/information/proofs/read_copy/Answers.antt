-- `read_copy` meets its contract. Assumes nothing.
use Rattle.general.proofs.Names.{sym, ◌∙◌, rules}
use Rattle.information.specs.Inner.{number_from}
use Rattle.information.proofs.Read.{copy_is}
use Rattle.information.proofs.read_copy.Goals as goal

pub read_arm-a-requires : goal.read_arm-a-requires
unfolding number_from
read_arm-a-requires c = search rules

pub returns : goal.returns
returns c = c.read_arm.ensures ∙ sym (copy_is _ _ _)
