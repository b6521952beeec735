-- Leftover modules: zero bits under the mask in a mark, and ignored by both readings. Assumes nothing.
use Rattle.general.proofs.Names.{◌≡◌, refl, sym, ap, ap₂, ◌∙◌, ◌≢◌, Bool, true, false, List, [], ◌∷◌, map, ℕ, zero, suc, ◌*◌, ◌≤◌, arith, ne_eqb, zero-add, length}
use Rattle.general.proofs.Names.{get_or, take}
use Rattle.symbol.specs.Version.{side_of, is_side, side_version}
use Rattle.symbol.specs.Layout.{layout_of, data_modules}
use Rattle.information.specs.Information.{copy_of, info_bits, nearest_of}
use Rattle.information.proofs.Flips.{copy_agree, info_else}
use Rattle.block_table.specs.Blocks.{total_of, shapes_of}
use Rattle.bits.specs.Bits.{bits_of}
use Rattle.bits.proofs.Reading.{length_bits}
use Rattle.codewords.specs.Codewords.{mask_bit, from_stream}
use Rattle.codewords.proofs.Small.{Below}
use Rattle.codewords.proofs.Interleave.{length_interleaved}
use Rattle.codewords.proofs.Placement.{placed_leftover}
use Rattle.codewords.proofs.Back.{stream_agree}
use Rattle.blocks.specs.Blockwise.{stream_of}
use Rattle.script.specs.Check.{commands_of}
use Rattle.script.specs.Inner.{script_data}
use Rattle.marks.specs.Read.{Reading, first_refusal, module_bit, unknown_bit, nearest_in, stream_from, flags_from, blocks_in, flags_in, read_refusal, known_refusal, body_of, with_receipt, read_of, read_known_of}
use Rattle.marks.specs.Write.{room_of, mark_of, write_of}
use Rattle.marks.specs.Promise.{Leftover}
use Rattle.marks.proofs.Modules.{below_modules, lit_below, unknown_below, stream_lit, nearest_lit, stream_bits, nearest_bits}
use Rattle.marks.proofs.Starts.{side_range}
use Rattle.marks.proofs.Marks.{Written, written}
use Rattle.marks.proofs.ReadBack.{stream_total}

-- ---- in a mark

module _ (v l k : ℕ) (script payload before : List ℕ) (bytes : Below 256 script) (W : Written v l k script payload before) where
  abbrev stream : List ℕ
  stream = stream_of (shapes_of v l) (script_data (room_of v l) (commands_of script payload))

  bits_length : length (bits_of (from_stream stream)) ≡ 8 * total_of v
  bits_length =
      length_bits (from_stream stream) ∙ ap (λ (n : ℕ). 8 * n) (length_interleaved stream ∙ stream_total v l k script payload before bytes W)

  mark_leftover : (i : ℕ) → Leftover v i → get_or (mark_of v l k script payload) i 0 ≡ mask_bit (side_of v) k i
  unfolding mark_of
  mark_leftover i L =
      let few : length (bits_of (from_stream stream)) ≤ data_modules (take i (layout_of v)) = omega (arith, bits_length, L.2) in
      info_else v (info_bits v l k) _ W.ranged.low i (λ e. omega (arith, L.1))
      ∙ (simp zero-add at (placed_leftover (mask_bit (side_of v) k) 0 (layout_of v) (bits_of (from_stream stream)) i L.0 L.1 few))

pub leftover_masked : (v l k : ℕ) (script payload before mark : List ℕ) → Below 256 script
    → write_of v l k script payload before ≡ record { number = 0; square = mark } → (i : ℕ) → Leftover v i → get_or mark i 0 ≡ mask_bit (side_of v) k i
leftover_masked v l k script payload before mark bytes made i L =
    let w = written v l k script payload before mark made in
    ap (λ (q : List ℕ). get_or q i 0) w.1 ∙ mark_leftover v l k script payload before bytes w.0 i L

-- ---- in a square that is read

-- a refusal does not look at what would be read
refused_alike : (r p s : List ℕ) (n : ℕ) (x y : Reading) → n ≢ 0 → with_receipt r p s n x ≡ with_receipt r p s n y
unfolding with_receipt
refused_alike r p s n x y d = simp (ne_eqb n 0 d)

-- an element by a test that 0 fails
pub get_or_by : (f : ℕ → ℕ) → f 0 ≡ 0 → (xs : List ℕ) (i : ℕ) → get_or (map f xs) i 0 ≡ f (get_or xs i 0)
get_or_by f z [] i = sym z
get_or_by f z (x ∷ xs) zero = refl
get_or_by f z (x ∷ xs) (suc i) = get_or_by f z xs i

pub length_by : (f : ℕ → ℕ) (xs : List ℕ) → length (map f xs) ≡ length xs
length_by f [] = refl
length_by f (x ∷ xs) = ap suc (length_by f xs)

-- squares of bits
module _ (a b : List ℕ) (size : length a ≡ length b) (bits-a : Below 2 a) (bits-b : Below 2 b) (v : ℕ)
    (same : (i : ℕ) → (Leftover v i → ⊥) → get_or a i 0 ≡ get_or b i 0) where
  bits_streams : (k : ℕ) → stream_from v k a ≡ stream_from v k b
  bits_streams k =
      stream_bits v a bits-a k
      ∙ stream_agree (total_of v) (mask_bit (side_of v) k) (layout_of v) a b size (λ i l z q. same i (λ L. omega (arith, q, L.2)))
      ∙ sym (stream_bits v b bits-b k)

  copies : 1 ≤ v → (second : Bool) → copy_of (side_of v) second a ≡ copy_of (side_of v) second b
  copies lo second = copy_agree v lo second a b (λ i z. same i (λ L. omega (arith, z, L.1)))

  bits_nearest : 1 ≤ v → nearest_in v a ≡ nearest_in v b
  bits_nearest lo = nearest_bits v a bits-a ∙ ap₂ (nearest_of v) (copies lo false) (copies lo true) ∙ sym (nearest_bits v b bits-b)

module _ (a b : List ℕ) (size : length a ≡ length b) (modules-a : Below 3 a) (modules-b : Below 3 b) where
  module _ (v : ℕ) (same : (i : ℕ) → (Leftover v i → ⊥) → get_or a i 0 ≡ get_or b i 0) where
    sized : (f : ℕ → ℕ) → length (map f a) ≡ length (map f b)
    sized f = length_by f a ∙ size ∙ sym (length_by f b)

    alike : (f : ℕ → ℕ) → f 0 ≡ 0 → (i : ℕ) → (Leftover v i → ⊥) → get_or (map f a) i 0 ≡ get_or (map f b) i 0
    alike f z i n = get_or_by f z a i ∙ ap f (same i n) ∙ sym (get_or_by f z b i)

    streams : (k : ℕ) → stream_from v k a ≡ stream_from v k b
    streams k =
        stream_lit v a k ∙ bits_streams (map module_bit a) (map module_bit b) (sized module_bit) (lit_below a) (lit_below b) v (alike module_bit refl) k ∙ sym (stream_lit v b k)

    flags : flags_from v a ≡ flags_from v b
    unfolding flags_from
    flags = bits_streams (map unknown_bit a) (map unknown_bit b) (sized unknown_bit) (unknown_below a) (unknown_below b) v (alike unknown_bit refl) 0

    bodies : (l k d : ℕ) (p s : List ℕ) → body_of v l k d a p s ≡ body_of v l k d b p s
    unfolding body_of blocks_in flags_in
    bodies l k d p s = rw (streams k, flags)

    nearest : 1 ≤ v → nearest_in v a ≡ nearest_in v b
    nearest lo =
        nearest_lit v a ∙ bits_nearest (map module_bit a) (map module_bit b) (sized module_bit) (lit_below a) (lit_below b) v (alike module_bit refl) lo ∙ sym (nearest_lit v b)

    pub known_alike : (l k : ℕ) (p s r : List ℕ) → read_known_of a v l k p s r ≡ read_known_of b v l k p s r
    unfolding read_known_of known_refusal
    known_alike l k p s r = rw (bodies l k 0 p s, size, below_modules a modules-a, below_modules b modules-b)

  pub read_alike : (side : ℕ) → ((i : ℕ) → (Leftover (side_version side) i → ⊥) → get_or a i 0 ≡ get_or b i 0) → (p s r : List ℕ)
      → read_of a side p s r ≡ read_of b side p s r
  unfolding read_of read_refusal first_refusal
  read_alike side same p s r = go (is_side side) refl
    where
      go : (t : Bool) → is_side side ≡ t → read_of a side p s r ≡ read_of b side p s r
      go true e =
          let n = nearest (side_version side) same (side_range side e).0 in
          rw (n, size, below_modules a modules-a, below_modules b modules-b, bodies (side_version side) same _ _ _ p s)
      go false e = simp e (refused_alike r p s 1 _ _ (λ z. omega arith))
