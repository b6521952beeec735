-- The bits of one segment, part by part.
use Rattle.general.proofs.Names.{◌≡◌, refl, sym, ap, ◌∙◌, true, List, ◌++◌, ℕ, zero, suc, ◌+◌, ◌*◌, ◌%◌, ◌^◌, ◌<◌, ◌≤◌, arith, lt-ltb, le-ltb, length}
use Rattle.general.proofs.Names.{length-append}
use Rattle.bits.specs.Bits.{low_bits, word_bits}
use Rattle.bits.proofs.Words.{length_low, length_words}
use Rattle.script.specs.Writer.{numeric_words, four_code, mode_has, mode_bits, eci_bits}
use Rattle.script.proofs.Runs.{four_long}
use Rattle.script.specs.Characters.{words_of, has_all, width_of, begins_in}
use Rattle.encoding.specs.Written.{Written}
use Rattle.encoding.proofs.WordsLeft.{two_words}

-- room for a part, and for what comes behind it
pub first_room : (n v i m : ℕ) (ys : List ℕ) → i + length (low_bits n v ++ ys) ≤ m → i + n ≤ m
first_room n v i m ys h = omega (arith, length-append (low_bits n v) ys, length_low n v)

pub rest_room : {s t xs : List ℕ} {i r : ℕ} (ys : List ℕ) (m : ℕ) → Written s i xs r t → i + length (xs ++ ys) ≤ m → r + length ys ≤ m
rest_room {s} {t} {xs} {i} {r} ys m w h = let b = w.behind in omega (arith, length-append xs ys)

pub word_length : (w : ℕ) (ws : List ℕ) (r m : ℕ) → r + length (word_bits w ws) ≤ m → r + w * length ws ≤ m
word_length w ws r m h = rw length_words at h

module _ (mode : ℕ) (bs : List ℕ) where
  pub numeric_bits : mode ≡ 1 → mode_bits mode bs ≡ word_bits 10 (numeric_words bs)
  unfolding mode_bits
  numeric_bits e = rw e

  pub bytes_bits : mode ≡ 3 → mode_bits mode bs ≡ low_bits 13 (length bs) ++ word_bits 8 bs
  unfolding mode_bits
  bytes_bits e = rw e

  pub four_bits : mode ≡ 7 → mode_bits mode bs ≡ low_bits 21 (four_code bs)
  unfolding mode_bits
  four_bits e = rw e

  pub four_whole : mode ≡ 7 → mode_has mode bs ≡ true → 4 ≤ length bs
  unfolding mode_has
  four_whole e h = let l = four_long bs (rw e at h) in omega arith

pub char_bits : (mode : ℕ) (bs : List ℕ) → 1 ≤ mode → mode ≤ 7 → (mode ≡ 1 → ⊥) → (mode ≡ 3 → ⊥) → (mode ≡ 7 → ⊥)
    → (mode_bits mode bs ≡ word_bits (width_of mode) (words_of mode (begins_in mode) bs)) × (mode_has mode bs ≡ has_all mode bs)
unfolding mode_bits mode_has has_all words_of width_of begins_in
char_bits zero bs a b n1 n3 n7 = absurd (omega arith)
char_bits (suc zero) bs a b n1 n3 n7 = absurd (n1 refl)
char_bits (suc (suc zero)) bs a b n1 n3 n7 = (refl, refl)
char_bits (suc (suc (suc zero))) bs a b n1 n3 n7 = absurd (n3 refl)
char_bits (suc (suc (suc (suc zero)))) bs a b n1 n3 n7 = (refl, refl)
char_bits (suc (suc (suc (suc (suc zero))))) bs a b n1 n3 n7 = (refl, refl)
char_bits (suc (suc (suc (suc (suc (suc zero)))))) bs a b n1 n3 n7 = (refl, refl)
char_bits (suc (suc (suc (suc (suc (suc (suc zero))))))) bs a b n1 n3 n7 = absurd (n7 refl)
char_bits (suc (suc (suc (suc (suc (suc (suc (suc m)))))))) bs a b n1 n3 n7 = absurd (omega arith)

-- the prefix and the value of an ECI as one number
module _ (v : ℕ) where
  pub eci_7 : v < 128 → eci_bits v ≡ low_bits 8 v
  unfolding eci_bits low_bits
  eci_7 h = let e : 0 * 2 ^ 7 + v % 2 ^ 7 ≡ v = omega arith in rw (lt-ltb v 128 h) (sym (two_words 1 7 0 v) ∙ ap (low_bits 8) e)

  pub eci_14 : 128 ≤ v → v < 16384 → eci_bits v ≡ low_bits 16 (0x8000 + v)
  unfolding eci_bits low_bits
  eci_14 l h =
      let e : 2 * 2 ^ 14 + v % 2 ^ 14 ≡ 0x8000 + v = omega arith in
      rw (le-ltb v 128 l, lt-ltb v 16384 h) (sym (two_words 2 14 2 v) ∙ ap (low_bits 16) e)

  pub eci_21 : 128 ≤ v → 16384 ≤ v → eci_bits v ≡ low_bits 24 (0xC00000 + v % 0x200000)
  unfolding eci_bits low_bits
  eci_21 l h = rw (le-ltb v 128 l, le-ltb v 16384 h) (sym (two_words 3 21 6 v))
