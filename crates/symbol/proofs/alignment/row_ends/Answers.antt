-- `row_ends` meets its contract.
use Rattle.general.proofs.Names.{refl, ap, ℕ, ◌+◌, ◌-◌, arith}
use lib.IntN.{pos}
use Rattle.symbol.specs.Layout.{row_ends}
use Rattle.symbol.proofs.Coordinates.{ok, small, inside_call, inside_number}
use Rattle.symbol.proofs.Lines.{fits_square}
use Rattle.symbol.proofs.Plots.{next, assisted}
use Rattle.symbol.proofs.alignment.row_ends.Goals as goal

pub assistant_if_odd-requires : goal.assistant_if_odd-requires
assistant_if_odd-requires c = (c.requires.0, inside_number 0 (omega arith) (omega arith), inside_call c.row_of-y.type_inv c.row_of-y.ensures.1)

pub overflow_cast-p : goal.overflow_cast-p
overflow_cast-p c = small _ (omega arith)

pub assistant_if_odd-requires-2 : goal.assistant_if_odd-requires-2
assistant_if_odd-requires-2 c =
    let room = c.assistant_if_odd.auto.grid in
    (fits_square c.requires.0 room, inside_number (c.args.p.side - 1) (omega arith) (omega arith), inside_call c.row_of-y.type_inv c.row_of-y.ensures.1)

pub returns : goal.returns
unfolding row_ends
returns c =
    let q = c.requires.0.spaced in
    next (assisted (ap (λ (k : ℕ). c.args.n + k) q.m_is) (small (pos 0) (omega arith)) (ok c.row_of-y.result c.row_of-y.type_inv) refl
    c.row_of-y.ensures.0 c.assistant_if_odd.ensures)
    (assisted {k = c.args.n} refl (small (pos (c.args.p.side - 1)) (omega arith)) (ok c.row_of-y.result c.row_of-y.type_inv)
    (ap (λ (k : ℕ). pos (k - 1)) q.side_is) c.row_of-y.ensures.0 c.assistant_if_odd-2.ensures)
