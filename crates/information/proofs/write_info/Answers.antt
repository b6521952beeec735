-- `write_info` meets its contract. Assumes nothing.
use Rattle.general.proofs.Names.{ℕ, ap, ◌∙◌, true, List}
use Rattle.information.specs.Information.{info_written}
use Rattle.information.specs.Inner.{copy_written}
use Rattle.information.proofs.write_info.Goals as goal

pub returns : goal.returns
unfolding info_written
returns c = c.write_copy-2.ensures ∙ ap (λ (g : List ℕ). copy_written c.args.side true c.args.word g) c.write_copy.ensures
