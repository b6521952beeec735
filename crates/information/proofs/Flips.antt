-- At most 8 of the 68 information modules flipped: the nearest word is the one that was written.
use Rattle.general.proofs.Names.{◌≡◌, sym, ap, ◌∙◌, Bool, true, false, cond, not, List, [], ◌∷◌, ℕ, zero, suc, ◌+◌, ◌*◌, ◌^◌, ◌<◌, ◌≤◌, arith, eqb, length}
use Rattle.general.proofs.Names.{get_or, set, bit_xor}
use lib.Count.{ones}
use Rattle.symbol.specs.Version.{side_of}
use Rattle.symbol.specs.Layout.{layout_of}
use Rattle.symbol.proofs.Theorems.{layout_length}
use Rattle.information.specs.Information.{word_at, word_distance, nearest_word, info_position, copy_of, info_written, info_flips}
use Rattle.information.specs.Inner.{module_of, stored, copy_written}
use Rattle.information.proofs.Apart.{few_flips}
use Rattle.information.proofs.Read.{copy_is, number_same, stored_length, stored_else, copy_length, copy_else, copy_bits, differing, distance_is, round}
use Rattle.information.proofs.Read.{round_first}
use Rattle.information.proofs.Distinct.{place_same, place_other}
use Rattle.information.proofs.Kind.{info_kind}

-- Flips that are counted over the layout, and over a list of distinct information places.

-- one information module less
without : (ks g h : List ℕ) (p : ℕ) → get_or ks p 0 ≡ 1 → length g ≡ length ks → length h ≡ length ks
    → info_flips ks g h ≡ cond (eqb (get_or g p 0) (get_or h p 0)) 0 1 + info_flips (set ks p 2) g h
unfolding info_flips
without [] g h p e a b = absurd (omega arith)
without (k ∷ ks) [] h p e a b = absurd (omega arith)
without (k ∷ ks) (x ∷ g) [] p e a b = absurd (omega arith)
without (zero ∷ ks) (x ∷ g) (y ∷ h) zero e a b = absurd (omega arith)
without (suc zero ∷ ks) (x ∷ g) (y ∷ h) zero e a b =
    elim (eqb x y) as (λ t. cond (not t) 1 0 + info_flips ks g h ≡ cond t 0 1 + (0 + info_flips ks g h)) [ true ↦ omega arith | false ↦ omega arith ]
without (suc (suc k) ∷ ks) (x ∷ g) (y ∷ h) zero e a b = absurd (omega arith)
without (k ∷ ks) (x ∷ g) (y ∷ h) (suc p) e a b =
    omega (arith, without ks g h p e (omega arith) (omega arith))

-- the kinds without n places
abbrev removed : (ℕ → ℕ) → ℕ → List ℕ → List ℕ
removed place n ks = stored place (λ k. 2) n ks

-- distinct information places, and the rest of the layout
counted : (place : ℕ → ℕ) (n : ℕ) (ks g h : List ℕ) → ((k : ℕ) → k < n → get_or ks (place k) 0 ≡ 1) → ((j k : ℕ) → j < n → k < n → place j ≡ place k → j ≡ k)
    → length g ≡ length ks → length h ≡ length ks
    → differing (λ k. get_or g (place k) 0) (λ k. get_or h (place k) 0) n + info_flips (removed place n ks) g h ≡ info_flips ks g h
unfolding differing stored
counted place zero ks g h e d a b = omega arith
counted place (suc n) ks g h e d a b =
    let l = stored_length place (λ k. 2) ks n in
    let ih = counted place n ks g h (λ k q. e k (omega arith)) (λ j k p q. d j k (omega arith) (omega arith)) a b in
    let last : get_or (removed place n ks) (place n) 0 ≡ 1 =
    stored_else place (λ k. 2) ks n (place n) (λ k q z. let y : n ≡ k = d n k (omega arith) (omega arith) z in omega arith) ∙ e n (omega arith) in
    let w = without (removed place n ks) g h (place n) last (a ∙ sym l) (b ∙ sym l) in
    omega arith

module _ (v : ℕ) (lo : 1 ≤ v) (g h : List ℕ) (lg : length g ≡ side_of v * side_of v) (lh : length h ≡ side_of v * side_of v) where
  abbrev differ : Bool → ℕ
  differ second = differing (module_of (side_of v) second g) (module_of (side_of v) second h) 34

  -- both copies
  both : differ false + differ true ≤ info_flips (layout_of v) g h
  both =
      let big : 23 ≤ 2 * v + 21 = omega arith in
      let ks = layout_of v in
      let place = info_position (side_of v) in
      let first = counted (place false) 34 ks g h (info_kind v lo false) (place_same (side_of v) big false) (lg ∙ sym (layout_length v))
      (lh ∙ sym (layout_length v)) in
      let l = stored_length (place false) (λ k. 2) ks 34 ∙ layout_length v in
      let second = counted (place true) 34 (removed (place false) 34 ks) g h
      (λ k q. stored_else (place false) (λ k. 2) ks 34 (place true k) (λ j r z. place_other (side_of v) big j k r q (sym z)) ∙ info_kind v lo true k q)
      (place_same (side_of v) big true) (lg ∙ sym l) (lh ∙ sym l) in
      omega (arith, first, second)

  -- a square of bits whose two copies are word k: the distance of another square from that word is at most the information modules that differ
  module _ (k : ℕ) (p : (i : ℕ) → get_or g i 0 < 2) (q : (i : ℕ) → get_or h i 0 < 2)
      (a : copy_of (side_of v) false g ≡ word_at v k) (b : copy_of (side_of v) true g ≡ word_at v k) where
    copies : (second : Bool) → ones (bit_xor (copy_of (side_of v) second g) (copy_of (side_of v) second h)) ≡ differ second
    copies second =
        rw (copy_is (side_of v) second g, copy_is (side_of v) second h)
        (distance_is (module_of (side_of v) second g) (module_of (side_of v) second h) (λ n. p (info_position (side_of v) second n))
        (λ n. q (info_position (side_of v) second n)) 34)

    pub flips_distance : word_distance v (copy_of (side_of v) false h) (copy_of (side_of v) true h) k ≤ info_flips (layout_of v) g h
    unfolding word_distance
    flips_distance =
        omega (arith, rw a at (copies false), rw b at (copies true), both)

    -- with at most 8 that differ, word k is the nearest
    pub flips_nearest : v ≤ 84 → k < 16 → info_flips (layout_of v) g h ≤ 8 → nearest_word v (copy_of (side_of v) false h) (copy_of (side_of v) true h) ≡ k
    flips_nearest hi small few = few_flips v k (copy_of (side_of v) false h) (copy_of (side_of v) true h) hi small (omega (arith, flips_distance))

-- squares with the same information modules have the same copies
pub copy_agree : (v : ℕ) → 1 ≤ v → (second : Bool) (g h : List ℕ) → ((p : ℕ) → get_or (layout_of v) p 0 ≡ 1 → get_or g p 0 ≡ get_or h p 0)
    → copy_of (side_of v) second g ≡ copy_of (side_of v) second h
copy_agree v lo second g h e =
    rw (copy_is (side_of v) second g, copy_is (side_of v) second h)
    (number_same (module_of (side_of v) second g) (module_of (side_of v) second h) 34 (λ k l. e _ (info_kind v lo second k l)))

-- both copies written into a square: read back, of the same length, and bits where there were bits
module _ (v : ℕ) (lo : 1 ≤ v) (w : ℕ) (g : List ℕ) (room : side_of v * side_of v ≤ length g) (word : w < 2 ^ 34) where
  big_side : 23 ≤ 2 * v + 21
  big_side = omega arith

  pub write_then_first : copy_of (side_of v) false (info_written (side_of v) w g) ≡ w
  unfolding info_written
  write_then_first = round_first (side_of v) big_side w w g room word

  pub write_then_second : copy_of (side_of v) true (info_written (side_of v) w g) ≡ w
  unfolding info_written
  write_then_second = round (side_of v) true w (copy_written (side_of v) false w g) big_side (omega (arith, copy_length (side_of v) false w g)) word

pub info_length : (s w : ℕ) (g : List ℕ) → length (info_written s w g) ≡ length g
unfolding info_written
info_length s w g = copy_length s true w (copy_written s false w g) ∙ copy_length s false w g

pub info_bits_lem : (s w : ℕ) (g : List ℕ) → ((i : ℕ) → get_or g i 0 < 2) → (i : ℕ) → get_or (info_written s w g) i 0 < 2
unfolding info_written
info_bits_lem s w g h = copy_bits s true w (copy_written s false w g) (copy_bits s false w g h)

-- a place that is no information module keeps its module
pub info_else : (v w : ℕ) (g : List ℕ) → 1 ≤ v → (p : ℕ) → (get_or (layout_of v) p 0 ≡ 1 → ⊥) → get_or (info_written (side_of v) w g) p 0 ≡ get_or g p 0
unfolding info_written
info_else v w g lo p ne =
    copy_else (side_of v) true w (copy_written (side_of v) false w g) p (λ k l e. ne (ap (λ (i : ℕ). get_or (layout_of v) i 0) e ∙ info_kind v lo true k l))
    ∙ copy_else (side_of v) false w g p (λ k l e. ne (ap (λ (i : ℕ). get_or (layout_of v) i 0) e ∙ info_kind v lo false k l))
