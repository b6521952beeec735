-- `accepted` meets its contract. Assumes nothing.
use Rattle.receipts.proofs.Receipts.{accepted_is}
use Rattle.receipts.proofs.accepted.Goals as goal

pub returns : goal.returns
returns c =
    accepted_is _ _ _ _ _ _ _ c.requires.version_bound.0 c.requires.version_bound.1 c.requires.version_bound.2 c.requires.fits_receipt.count c.requires.version_bound.3
    c.requires.fits_receipt.payload c.requires.fits_receipt.script
    _ _ _ _ _ _ _ _ _ _ c.low_byte.ensures c.low_byte-2.ensures c.low_byte-3.ensures c.low_byte-4.ensures c.low_byte-5.ensures c.low_byte-6.ensures
    c.low_byte-7.ensures c.low_byte-8.ensures c.low_byte-9.ensures c.low_byte-10.ensures
