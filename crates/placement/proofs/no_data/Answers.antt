-- `no_data` meets its contract. Assumes nothing.
use Rattle.placement.proofs.Runs.{no_data_are}
use Rattle.placement.proofs.no_data.Goals as goal

pub returns : goal.returns
returns c = no_data_are c.zero_bytes.ensures
