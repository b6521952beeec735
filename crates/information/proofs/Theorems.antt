-- What a customer may quote of the information words and modules.
use Rattle.general.proofs.Names.{◌≡◌, Bool, true, false, List, ℕ, ◌*◌, ◌^◌, ◌<◌, ◌≤◌, bit_xor, length, get_or}
use lib.Count.{ones}
use Rattle.symbol.specs.Version.{side_of}
use Rattle.symbol.specs.Layout.{layout_of}
use Rattle.information.specs.Information.{word_at, word_distance, nearest_word, info_position, copy_of, info_written, info_flips}
use Rattle.information.proofs.Apart as apart
use Rattle.information.proofs.Distinct as distinct
use Rattle.information.proofs.Kind as kind
use Rattle.information.proofs.Flips as flips

-- Two words of one version differ in at least 9 of the 34 bits of a copy.
pub nine_apart : (v j k : ℕ) → v ≤ 84 → j < 16 → k < 16 → (j ≡ k → ⊥) → 9 ≤ ones (bit_xor (word_at v j) (word_at v k))
nine_apart v j k = apart.apart v j k

-- If at most 8 bits of two copies differ from a word of this version, the nearest word is that word.
pub few_bits : (v k a b : ℕ) → v ≤ 84 → k < 16 → word_distance v a b k ≤ 8 → nearest_word v a b ≡ k
few_bits v k a b = apart.few_flips v k a b

-- The 68 information places of a version are distinct ..
pub places_distinct : (v : ℕ) → 23 ≤ side_of v → (second : Bool) (j k : ℕ) → j < 34 → k < 34
    → info_position (side_of v) second j ≡ info_position (side_of v) second k → j ≡ k
places_distinct v = distinct.place_same (side_of v)

pub copies_distinct : (v : ℕ) → 23 ≤ side_of v → (j k : ℕ) → j < 34 → k < 34 → info_position (side_of v) false j ≡ info_position (side_of v) true k → ⊥
copies_distinct v = distinct.place_other (side_of v)

-- .. and each carries the kind 'information' in the layout.
pub places_kind : (v : ℕ) → 1 ≤ v → (second : Bool) (n : ℕ) → n < 34 → get_or (layout_of v) (info_position (side_of v) second n) 0 ≡ 1
places_kind = kind.info_kind

-- A word that was written into a square is read back from both copies.
pub read_back : (v w : ℕ) (g : List ℕ) → 1 ≤ v → side_of v * side_of v ≤ length g → w < 2 ^ 34
    → (copy_of (side_of v) false (info_written (side_of v) w g) ≡ w) × (copy_of (side_of v) true (info_written (side_of v) w g) ≡ w)
read_back v w g lo room h = (flips.write_then_first v lo w g room h, flips.write_then_second v lo w g room h)

-- g is such a square, with word k in both copies, and h another: no more bits of h differ from the word than information modules differ ..
module _ (v k : ℕ) (g h : List ℕ) (lo : 1 ≤ v) (lg : length g ≡ side_of v * side_of v) (lh : length h ≡ side_of v * side_of v)
    (bg : (i : ℕ) → get_or g i 0 < 2) (bh : (i : ℕ) → get_or h i 0 < 2)
    (first : copy_of (side_of v) false g ≡ word_at v k) (second : copy_of (side_of v) true g ≡ word_at v k) where
  pub flips_bound : word_distance v (copy_of (side_of v) false h) (copy_of (side_of v) true h) k ≤ info_flips (layout_of v) g h
  flips_bound = flips.flips_distance v lo g h lg lh k bg bh first second

  -- .. and where at most 8 modules do, the nearest word is the one written.
  pub few_modules : v ≤ 84 → k < 16 → info_flips (layout_of v) g h ≤ 8 → nearest_word v (copy_of (side_of v) false h) (copy_of (side_of v) true h) ≡ k
  few_modules hi small few = flips.flips_nearest v lo g h lg lh k bg bh first second hi small few
