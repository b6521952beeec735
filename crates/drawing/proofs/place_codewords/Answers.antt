-- `place_codewords` meets its contract. Assumes nothing.
use Rattle.bits.specs.Bits.{bits_of}
use Rattle.codewords.specs.Codewords.{mask_bit, placed}
use Rattle.general.proofs.Names.{take, length-take-le, sym, ap, ◌∙◌, ℕ, ◌*◌, arith}
use Rattle.drawing.proofs.place_codewords.Goals as goal

pub slice_bounds-place_all-end : goal.slice_bounds-place_all-end
slice_bounds-place_all-end c = sym (length-take-le _ _ (omega arith))

pub slice_bounds-place_all-end-2 : goal.slice_bounds-place_all-end-2
slice_bounds-place_all-end-2 c = sym (length-take-le _ _ c.requires.total_in_bounds.0)

pub place_all-requires : goal.place_all-requires
place_all-requires c =
    let kinds = length-take-le (c.args.side * c.args.side) c.args.kinds.now (omega arith) in (
      c.requires.square_in_bounds.3
          ∙ sym kinds,
      c.requires.square_in_bounds.1,
      c.requires.square_in_bounds.2,
      c.requires.square_in_bounds.3,
      omega (
        arith,
        length-take-le c.args.total c.args.codewords.now
            c.requires.total_in_bounds.0,
      ),
    )

pub returns : goal.returns
returns c =
    c.place_all.ensures
    ∙ ap (λ (n : ℕ). placed (mask_bit c.args.side c.args.mask) 0 (take n c.args.kinds.now)
    (bits_of (take c.args.total c.args.codewords.now))) (sym c.requires.square_in_bounds.3)
