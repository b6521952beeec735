-- `decode` meets its contract. Assumes nothing.
use Rattle.decoding.proofs.Readings.{has_layout}
use Rattle.general.proofs.Names.{not-true, rules}
use Rattle.decoding.proofs.decode.Goals as goal

pub decode_open-requires : goal.decode_open-requires
decode_open-requires c = (c.requires.0, search rules, c.requires.2.none (not-true _ c.if-not-unknown.true-raw))

pub decode_or_refuse-requires : goal.decode_or_refuse-requires
decode_or_refuse-requires c = (c.requires.0, has_layout c.args.m _ c.args.kinds.now _ c.requires.0 c.requires.1 c.layout.ensures.1, c.requires.2)
