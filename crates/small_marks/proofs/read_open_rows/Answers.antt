-- `read_open_rows` meets its contract. Assumes nothing.
use Rattle.small_marks.proofs.Open.{open_layout, margin_few, open_turn}
use Rattle.small_marks.proofs.Narrow.{low_small}
use Rattle.placement.proofs.Rows.{part_length, row_inside, masked, rows_pending, walk_again, rows_begun, rows_done}
use Rattle.placement.specs.Walk.{bits_from, Walk}
use Rattle.symbol.specs.Version.{side_of}
use Rattle.symbol.specs.Layout.{layout_of}
use Rattle.codewords.specs.Codewords.{mask_bit, data_bits}
use Rattle.general.proofs.Names.{length, ◌≡◌, refl, sym, ap, subst, ℕ, ◌+◌, ◌*◌, ◌≤◌, zero-mul, arith}
use Rattle.small_marks.proofs.read_open_rows.Goals as goal

pub overflow_mul-side : goal.overflow_mul-side
overflow_mul-side c = omega arith

pub overflow_add-side : goal.overflow_add-side
overflow_add-side c = omega arith

pub open_rows-rows-requires : goal.open_rows-rows-requires
open_rows-rows-requires c = tt

pub loop-i-init : goal.loop-i-init
loop-i-init c =
    let m = mask_bit (side_of c.args.version) c.args.mask in
    let all = data_bits m 0 (layout_of c.args.version) c.args.square.now in
    let z : 0 ≡ 0 * side_of c.args.version = sym (zero-mul (side_of c.args.version)) in (
      rows_pending refl refl,
      omega arith,
      subst (λ (k : ℕ). Walk (length c.args.out.now) all c.args.out.now
          (bits_from m (layout_of c.args.version) c.args.square.now k) (record { column = 0; n = 0; value = 0; bits = 0 })) z
          (rows_begun all c.args.out.now refl refl refl c.requires.5),
    )

pub margin-m-requires : goal.margin-m-requires
margin-m-requires c = omega arith

pub overflow_mul-at : goal.overflow_mul-at
overflow_mul-at c = omega (
  arith,
  row_inside c.loop-i.i (side_of c.args.version)
      c.loop-i-test.true,
)

pub overflow_add-end : goal.overflow_add-end
overflow_add-end c = omega (
  arith,
  row_inside c.loop-i.i (side_of c.args.version)
      c.loop-i-test.true,
)

pub overflow_mul-row : goal.overflow_mul-row
overflow_mul-row c = omega (arith, c.requires.2)

pub overflow_add-row : goal.overflow_add-row
overflow_add-row c = omega arith

pub offset_bounds-rows-mask : goal.offset_bounds-rows-mask
offset_bounds-rows-mask c = omega arith

pub bounds-rows-mask : goal.bounds-rows-mask
bounds-rows-mask c = omega arith

pub slice_bounds-read_span-count : goal.slice_bounds-read_span-count
slice_bounds-read_span-count c = omega arith

pub slice_bounds-read_span-start : goal.slice_bounds-read_span-start
slice_bounds-read_span-start c = omega arith

pub slice_bounds-read_span-end : goal.slice_bounds-read_span-end
slice_bounds-read_span-end c = omega (
  arith,
  row_inside c.loop-i.i
      (side_of c.args.version) c.loop-i-test.true,
)

pub overflow_sub-side : goal.overflow_sub-side
overflow_sub-side c = omega (arith, margin_few c.margin-m.ensures)

pub read_span-r-requires : goal.read_span-r-requires
read_span-r-requires c =
    let few = margin_few c.margin-m.ensures in
    let v = c.args.version in
    let h : c.loop-i.i * side_of v + side_of v ≤ length c.args.square.now =
    omega (arith, row_inside c.loop-i.i (side_of v) c.loop-i-test.true) in
    let l = part_length (c.loop-i.i * side_of v) (side_of v) c.args.square.now h in (
      masked c.args.square.now (c.loop-i.i * side_of v) (side_of v) c.requires.4 (low_small 27 _) (omega arith) h,
      record
          { few = c.loop-i.invariant.0.few; small = c.loop-i.invariant.0.small },
      omega (arith, few),
      omega (arith, few),
      omega (arith, l),
      omega (arith, l),
    )

pub overflow_add-i : goal.overflow_add-i
overflow_add-i c = omega arith

pub loop-i-smaller : goal.loop-i-smaller
loop-i-smaller c = omega arith

pub loop-i-preserved : goal.loop-i-preserved
loop-i-preserved c =
    let v = c.args.version in
    let taken = c.loop-i-test.true in
    let span = c.read_span-r.ensures in
    let rows = c.open_rows-rows.ensures in
    let turn = open_turn c.args.mask (layout_of v) c.args.square.now c.loop-i.i (side_of v) (omega arith)
    (open_layout v c.requires.1) c.requires.3 taken c.margin-m.ensures
    (λ k lo hi. rows.is c.args.mask c.loop-i.i k c.requires.2 (omega (arith, taken)) (omega arith)) refl span.1 span.2
    (walk_again refl refl refl c.loop-i.invariant.2) in
    (span.0, omega (arith, taken), turn)

pub shape_of-out : goal.shape_of-out
shape_of-out c = c.loop-i.invariant.2.words.size

pub returns : goal.returns
returns c =
    let e : c.loop-i.i ≡ side_of c.args.version = omega arith in
    rows_done (mask_bit (side_of c.args.version) c.args.mask) (layout_of c.args.version) c.args.square.now
    (c.loop-i.i * side_of c.args.version) (omega (arith, ap (λ (n : ℕ). n * side_of c.args.version) e)) c.loop-i.invariant.0 c.loop-i.invariant.2
