-- `try_one` meets its contract: what it leaves is a codeword, or the block as it was. Assumes nothing.
use Rattle.general.proofs.Names.{refl, arith, rules}
use Rattle.reed_solomon.proofs.Massey.{zeros}
use Rattle.erasure_corrector.proofs.One.{tried_not, put_back, tried}
use Rattle.erasure_corrector.proofs.try_one.Goals as goal

pub returns-then-n-k : goal.returns-then-n-k
returns-then-n-k c = tried_not refl

pub syndromes-requires : goal.syndromes-requires
syndromes-requires c = record { field = c.requires.field.0; first_bound = (omega arith, omega arith); s_len = (refl, zeros 256) }

pub remainder-requires : goal.remainder-requires
remainder-requires c = (c.requires.field.1.size, search rules)

pub returns-then-is_none : goal.returns-then-is_none
returns-then-is_none c =
    tried _ _ _ _ c.if-n-k.false c.only_erased-k.ensures c.requires.field.2
    (c.remainder.ensures _ c.requires.field.1) refl (c.is_none.ensures c.if-is_none.true) c.differ.ensures

pub returns : goal.returns
returns c = tried_not (put_back c.args.block.now _ _ c.if-n-k.false)
