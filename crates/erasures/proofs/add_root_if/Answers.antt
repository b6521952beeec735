-- `add_root_if` meets its contract. Assumes nothing.
use Rattle.general.proofs.Names.{refl, arith}
use Rattle.erasures.proofs.add_root_if.Goals as goal

pub add_root-requires : goal.add_root-requires
add_root-requires c = record { field = c.requires.field; f_len = (c.requires.f_len.0, c.requires.f_len.1 (omega arith), c.requires.f_len.3, c.requires.f_len.4) }

pub returns : goal.returns
returns c = record {
  kept = λ e. absurd (c.if-flag-eq0.false e);
  erased = λ h. (refl, c.add_root.ensures);
}
