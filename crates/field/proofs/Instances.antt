-- The polynomials that pass the order test: Han Xin's, and those of QR (11D hex) and Data Matrix (12D hex). Assumes nothing.
use lib.Dec.{T}
use Rattle.field.specs.Field.{times_alpha, raised, powers, find, below, is_onto, is_once, order_test}

pub primitive_163 : T (order_test 0x163)
unfolding order_test is_onto is_once powers find below raised times_alpha
primitive_163 = tt

pub primitive_11d : T (order_test 0x11D)
unfolding order_test is_onto is_once powers find below raised times_alpha
primitive_11d = tt

pub primitive_12d : T (order_test 0x12D)
unfolding order_test is_onto is_once powers find below raised times_alpha
primitive_12d = tt
