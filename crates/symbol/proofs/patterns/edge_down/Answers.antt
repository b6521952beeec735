-- `edge_down` meets its contract.
use Rattle.general.proofs.Names.{refl, sym, ap, ◌<◌, ◌+◌, arith}
use lib.Signed.{mag}
use lib.IntN.{ℤ, ◌+ℤ◌}
use mir.Syntax.{w64}
use mir.Val.{to_z, of_z}
use mir.Facts.{to_z-of_z}
use Rattle.symbol.specs.Layout.{line_module, line_down}
use Rattle.symbol.proofs.Coordinates.{small, near, mag_forth, forth_is, forth_fits, unsigned}
use Rattle.symbol.proofs.Plots.{begun, again, ended, heard}
use Rattle.symbol.proofs.patterns.edge_down.Goals as goal

pub loop-i-init : goal.loop-i-init
loop-i-init c = begun

pub overflow_sub-height : goal.overflow_sub-height
overflow_sub-height c = omega arith

pub overflow_add-i : goal.overflow_add-i
overflow_add-i c = omega arith

pub overflow_cast-i : goal.overflow_cast-i
overflow_cast-i c = small _ (omega arith)

pub overflow_add-y : goal.overflow_add-y
overflow_add-y c = forth_fits (c.loop-i.i + 1) c.ranges.y (omega arith) (omega arith)

pub line_module-requires : goal.line_module-requires
line_module-requires c =
    let n = c.loop-i.i + 1 in
    let f = forth_fits n c.ranges.y (omega arith) (omega arith) in
    let e = forth_is n c.ranges.y (omega arith) (omega arith) in
    let y-near : mag (to_z w64 (of_z w64 c.args.y) +ℤ to_z w64 n) < 1000 = rw e (omega (arith, mag_forth c.args.y n)) in
    (c.requires.0, omega arith, near 1000 c.ranges.x (omega arith), near 1000 f y-near)

pub overflow_add-i-in-loop-i : goal.overflow_add-i-in-loop-i
overflow_add-i-in-loop-i c = omega arith

pub loop-i-smaller : goal.loop-i-smaller
loop-i-smaller c = omega arith

pub loop-i-preserved : goal.loop-i-preserved
loop-i-preserved c =
    again (omega arith) c.loop-i.invariant (heard line_module c.ranges.x (forth_fits (c.loop-i.i + 1) c.ranges.y (omega arith) (omega arith))
    (sym (to_z-of_z c.ranges.x)) (ap (λ (z : ℤ). to_z w64 (of_z w64 c.args.y) +ℤ z) (unsigned (c.loop-i.i + 1) (omega arith)))
    c.line_module.ensures) c.line_module.auto.grid

pub shape_of-grid : goal.shape_of-grid
shape_of-grid c = c.loop-i.invariant.kept

pub returns : goal.returns
unfolding line_down
returns c = heard (λ a b. line_down a b c.args.height) c.ranges.x c.ranges.y refl refl (ended (omega arith) c.loop-i.invariant)
