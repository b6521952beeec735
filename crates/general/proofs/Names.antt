-- The words of the libraries that proofs here are written in, by one name. Nothing is declared.
pub use Prim.Native.Nat.{ℕ, ◌≤◌, ◌-◌, ◌+◌, ◌<◌, ◌*◌, suc, ◌%◌, ◌/◌, zero, ◌^◌, zero-le, suc-le-suc}
pub use mathlib.Core.Path.{◌∙◌, ◌≡◌, refl, ap, sym, subst, ap₂, fun_ext, subst₃, subst₂}
pub use mathlib.Core.Logic.{◌≢◌, inl, inr, ◌⊎◌, if_pos, if_neg, ⊎_elim, ite}
pub use mathlib.Core.Bool.{true, Bool, false, cond, ◌&&◌, not, false≢true, true≢false, ◌||◌}
unfoldable pub use mathlib.Core.Option.{bind}
pub use mathlib.Core.Option.{some, none, Option}
unfoldable pub use mathlib.Core.List.{flat_map, zip_with}
pub use mathlib.Core.List.{List, [], ◌∷◌, ◌++◌, append-nil, append_assoc, map, foldr}
pub use lib.Dec.{eqb, T, ltb, leb, eqb→eq, lit<, ltb→lt, leb→le, lt→ltb, eqb_refl, eqb-suc-zero, le→leb}
pub use lib.ListN.{length, get_or, drop, take, set, length-append, length-drop, length-set, replicate, take-append-drop, get_or-eq_default}
pub use lib.ListN.{drop_of_length-le, length-replicate, get_or-append, get_or-replicate, length-take, length-map, replicate-append-replicate}
pub use lib.Seq.{length-take-le, take_at, get_or-drop, sets, drop-drop, drop-cons, drop_at, get_or-set_same, get_or-set_other, ext_get_or, get_or-take}
pub use lib.Seq.{take_all, get_or-append-add, sets-eq, take-suc, take-append-le, paste, take-suc-set, drop-nil, set_at, append_snoc, take-add}
pub use lib.Seq.{set-append_left, set-get_or, take-take, drop-append-le, paste-suc, paste-zero, take-set-lt, drop-set-lt, take-length, length-sets}
pub use lib.Seq.{take-nil, get_or-append_seam, drop-append_seam, take-append_seam, set_out, get_or_at}
pub use lib.Bits.{bit_xor, xor_zero_r, xor_self, xor_lt, xor_block, xor_zero_l, xor_shr, xor_mod, bit_and, xor_comm, and_le_r, and_mask, differ}
pub use lib.Bits.{xor_step, and_zero_r, xor_shifted, bit_or, or_shr, and_shr, or_mod, and_mod, and_block}
pub use native.Mathlib.Nat.{add-zero, mod-lt, mul-le-mul, le_of_suc-le-suc, suc-mul, add_assoc, zero-add, add-mul, zero-mul, mod-eq_of_lt, zero-div}
pub use native.Mathlib.Nat.{one-mul, not-suc-le-zero, mul-le-mul_right, mul_assoc, add_comm, mul-suc, mul-le-mul_left, pow-succ', zero-mod}
pub use native.Mathlib.Nat.{lt_of_lt_of_le, pow-suc, eq-or-lt_of_le, sub-zero, div-eq_of_lt, mod-one, div-le_self, add-suc, pow-le-pow_right}
pub use native.Mathlib.Nat.{mul-add-div_right, add-mul-mod_self_right, div-eq-sub-div, mul-mod_left, div_self, mod-le, mul-zero, suc-add, mul_comm}
pub use native.Mathlib.Nat.{div-add-mod', le_of_lt, mul-one, mul-div-mul_left, le-div_iff_mul-le, div-lt_iff_lt-mul}
pub use native.Mathlib.Numerals.{add-one, one-add}
pub use native.Mathlib.Decide.{dec_lt, ℕ_discrete, dec_le}
pub use native.Mathlib.Omega.{arith}
pub use borrow.Author.Tests.{le-ltb, lt-ltb, ne_eqb, eq-eqb, lt-leb, le-leb, ltb-true, ltb-false, eqb-true, leb-true, eqb-false, not-true}
pub use borrow.Author.Tests.{not-false, leb-false}
pub use borrow.Author.Rules.{rules}
