-- `errors::take_off_all` meets its contract: place by place. Assumes nothing.
use Rattle.general.proofs.Names.{arith}
use Rattle.field.specs.Table.{poly_of}
use Rattle.reed_solomon.proofs.Residue.{off_all_start, off_all_next, off_all_end}
use Rattle.reed_solomon.proofs.errors.take_off_all.Goals as goal

pub loop-k-init : goal.loop-k-init
loop-k-init c = (
  off_all_start (poly_of c.args.field.now) c.args.first c.args.n c.args.parity c.args.e.now
      c.args.s.now,
  omega arith,
)

pub take_off-requires : goal.take_off-requires
take_off-requires c = record { field = c.requires.field; parity_in_bounds = (omega arith, omega arith, c.requires.parity_in_bounds.3) }

pub loop-k-preserved : goal.loop-k-preserved
loop-k-preserved c = (
  off_all_next (poly_of c.args.field.now) c.args.first c.args.n c.args.parity c.args.e.now c.args.s.now
      c.loop-k.k c.loop-k.s c.take_off.new.s c.loop-k.invariant.0 c.take_off.ensures,
  omega arith,
)

pub shape_of-s : goal.shape_of-s
shape_of-s c = c.loop-k.invariant.0.size

pub returns : goal.returns
returns c =
    off_all_end (poly_of c.args.field.now) c.args.first c.args.n c.args.parity c.args.e.now c.args.s.now
    c.loop-k.k c.loop-k.s c.loop-k.invariant.0 c.loop-k.invariant.1 (omega arith)
