-- `finish_in` meets its contract. Assumes nothing.
use Rattle.decoding.proofs.Readings.{finished}
use Rattle.reader.proofs.finish_in.Goals as goal

pub returns : goal.returns
returns c = finished _ _ _ _ _ _ c.decode-t.ensures.0 c.write_receipt.ensures
