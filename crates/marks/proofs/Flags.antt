-- The flags of a square: which codewords are erased. Assumes nothing.
use Rattle.general.proofs.Names.{◌≡◌, refl, ap, ◌∙◌, ◌≢◌, List, map, ℕ, ◌+◌, ◌*◌, ◌/◌, ◌%◌, ◌<◌, arith, ℕ_discrete, dec_lt, ne_eqb, xor_zero_r}
use Rattle.general.proofs.Names.{length, get_or, take, get_or-eq_default}
use Rattle.symbol.specs.Version.{side_of}
use Rattle.symbol.specs.Layout.{layout_of, data_kind, data_modules}
use Rattle.block_table.specs.Blocks.{total_of}
use Rattle.bits.specs.Bits.{first_words}
use Rattle.bits.proofs.Words.{first_length}
use Rattle.codewords.specs.Codewords.{mask_at, mask_bit, data_bits, order}
use Rattle.codewords.proofs.Bits.{word_by, word_from}
use Rattle.codewords.proofs.Placement.{data_at, data_from}
use Rattle.codewords.proofs.Apart.{place_of, codeword_at}
use Rattle.marks.specs.Read.{unknown_bit, flags_from}
use Rattle.marks.specs.Promise.{ModuleOf}
use Rattle.marks.proofs.Modules.{unknown_below, stream_bits, flags_length}
use Rattle.marks.proofs.Leftovers.{get_or_by, length_by}

-- an element that is not 0 lies inside
inside : (xs : List ℕ) (i : ℕ) → get_or xs i 0 ≢ 0 → i < length xs
inside xs i d = elim (dec_lt i (length xs)) [
  | yes h ↦ h
  | no h ↦ absurd (d (get_or-eq_default xs 0 (omega arith)))
]

is_unknown : (m : ℕ) → unknown_bit m ≢ 0 → m ≡ 2
is_unknown m d = elim (ℕ_discrete m 2) [
  | yes e ↦ e
  | no e ↦ absurd (d (rw (ne_eqb m 2 e)))
]

module _ (v : ℕ) (sq : List ℕ) where
  -- a bit for each data module, 1 where it is unknown, and the codewords of these bits
  abbrev bits : List ℕ
  bits = data_bits (mask_bit (side_of v) 0) 0 (layout_of v) (map unknown_bit sq)

  abbrev words : List ℕ
  words = first_words 8 (total_of v) bits

  bit_is : (i : ℕ) → i < length (layout_of v) → i < length sq → get_or (layout_of v) i 0 ≡ data_kind
      → get_or bits (data_modules (take i (layout_of v))) 0 ≡ unknown_bit (get_or sq i 0)
  unfolding mask_bit mask_at
  bit_is i h l z =
      data_at (mask_bit (side_of v) 0) 0 (layout_of v) (map unknown_bit sq) i h (omega (arith, length_by unknown_bit sq)) z
      ∙ xor_zero_r (get_or (map unknown_bit sq) i 0) ∙ get_or_by unknown_bit refl sq i

  flag_is : (n : ℕ) → n < total_of v → get_or (flags_from v sq) (get_or (order (total_of v)) n 0) 0 ≡ get_or words n 0
  unfolding flags_from
  flag_is n h =
      let e : length words ≡ total_of v = first_length 8 (total_of v) bits in
      rw (stream_bits v (map unknown_bit sq) (unknown_below sq) 0) (rw e at (codeword_at words n (omega arith)))

  pub unknown_erased : (q i : ℕ) → ModuleOf v q i → get_or sq i 0 ≡ 2 → get_or (flags_from v sq) q 0 ≢ 0
  unknown_erased q i M e =
      let n = data_modules (take i (layout_of v)) in
      let l : i < length sq = inside sq i (λ z. omega arith) in
      let b : get_or bits n 0 ≢ 0 = λ z. omega (arith, bit_is i M.0 l M.1, ap unknown_bit e) in
      let c : n / 8 * 8 + n % 8 ≡ n = omega arith in
      let f = flag_is (n / 8) (omega arith) in
      rw (← M.3, f) (word_by 8 (total_of v) bits (n / 8) (omega arith) (n % 8) (omega arith) (rw c b))

  -- a bit that is 1 is that of an unknown module
  module_from : (j : ℕ) → get_or bits j 0 ≢ 0
      → (i : ℕ) × (i < length (layout_of v)) × (get_or (layout_of v) i 0 ≡ data_kind) × (data_modules (take i (layout_of v)) ≡ j) × (get_or sq i 0 ≡ 2)
  module_from j d =
      let p = data_from (mask_bit (side_of v) 0) 0 (layout_of v) (map unknown_bit sq) j (inside bits j d) in
      let b = bit_is p.0 p.1 (omega (arith, length_by unknown_bit sq)) p.3 in
      (p.0, p.1, p.3, p.4, is_unknown (get_or sq p.0 0) (λ z. d (rw p.4 at b ∙ z)))

  numbered : (n k : ℕ) → n < total_of v → k < 8 → get_or bits (n * 8 + k) 0 ≢ 0 → (i : ℕ) × ModuleOf v (get_or (order (total_of v)) n 0) i × (get_or sq i 0 ≡ 2)
  numbered n k h l d =
      let x = module_from (n * 8 + k) d in
      let c : data_modules (take x.0 (layout_of v)) / 8 ≡ n = omega arith in
      (x.0, (x.1, x.2, omega arith, rw c), x.4)

  pub erased_unknown : (q : ℕ) → get_or (flags_from v sq) q 0 ≢ 0 → (i : ℕ) × ModuleOf v q i × (get_or sq i 0 ≡ 2)
  erased_unknown q d =
      let n = place_of (total_of v) q (omega (arith, inside (flags_from v sq) q d, flags_length v sq)) in
      let k = word_from 8 (total_of v) bits n.0 n.1 (λ z. d (rw n.2 at (flag_is n.0 n.1) ∙ z)) in
      rw n.2 at (numbered n.0 k.0 n.1 k.1 k.2)
