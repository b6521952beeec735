-- What a customer can quote of scripts.
use Rattle.general.proofs.Names.{◌≡◌, refl, ap, Bool, true, false, cond, List, ◌++◌, ℕ, ◌+◌, ◌-◌, ◌*◌, ◌<◌, ◌≤◌, arith, ne_eqb, le-ltb, lt-leb, ltb-false}
use Rattle.general.proofs.Names.{ltb, leb, length, get_or, drop}
use Rattle.segments.specs.Script.{Segment}
use Rattle.segments.specs.Segments.{segments_of}
use Rattle.segments.specs.FromData.{from_data}
use Rattle.script.specs.Writer.{encodings, data_bytes}
use Rattle.script.specs.Lengths.{bits_of_segments}
use Rattle.script.specs.Check.{commands_of}
use Rattle.script.specs.Inner.{most, capped, Fits, all_have, script_data}
use Rattle.script.proofs.Back.{AllLegal, Whole, round}
use Rattle.script.proofs.Lengths.{encodings_length}
use Rattle.script.proofs.Data.{data_bits, data_length, count_bits}
use Rattle.script.proofs.Scripts.{Again, commands_again}

-- NUMBER OF BITS. Segments whose modes have their bytes take as many bits as the formulas of SPECIFICATION 9.4 say.
pub bits_by_formulas : (gs : List Segment) → all_have gs ≡ true → length (encodings gs) ≡ bits_of_segments gs
bits_by_formulas = encodings_length

-- a number of bits that stops is at most the bits of data exactly where the number itself is
pub capped_fits : (b n : ℕ) → n ≤ 3886 → leb (capped b) (8 * n) ≡ leb b (8 * n)
capped_fits b n h = go (ltb b most) refl
  where
    go : (x : Bool) → ltb b most ≡ x → leb (cond x b most) (8 * n) ≡ leb b (8 * n)
    go true e = refl
    go false e = let k = ltb-false b most e in rw (lt-leb most (8 * n) (omega arith), lt-leb b (8 * n) (omega arith))

-- what is accepted and fits n bytes: its segments have this script and payload again
module _ (s p : List ℕ) (n : ℕ) (b : (i : ℕ) → get_or s i 0 < 256) (f : Fits s p n) where
  pub again : Again s p f.segments
  again = commands_again (length s + 1) s p f.segments b f.are

  -- the encoding has n bytes
  pub encoded_data : (script_data n (commands_of s p) ≡ data_bytes n f.segments) × (length (data_bytes n f.segments) ≡ n)
  encoded_data = (ap (script_data n) f.are, data_length n f.segments f.room)

read_back : (n : ℕ) (gs : List Segment) → AllLegal gs → all_have gs ≡ true → length (encodings gs) ≤ 8 * n → Whole (segments_of (data_bytes n gs)) gs
read_back n gs l h k = rw (data_length n gs k, data_bits n gs k) (round (8 * n + 1) gs (8 * n - length (encodings gs)) (omega (arith, count_bits gs)) l h)

-- ROUND TRIP. For every script and payload that are accepted and whose bits fit a run of n bytes, at most 3,886: Segments from data of the
-- encoding, with buffers long enough, gives exactly that script and payload.
pub round_trip : (s p : List ℕ) (n : ℕ) (buffer other : List ℕ) → ((i : ℕ) → get_or s i 0 < 256) → Fits s p n → n ≤ 3886
    → length p ≤ length buffer → length s ≤ length other
    → from_data (script_data n (commands_of s p)) buffer other
    ≡ record { number = 0; payload_length = length p; script_length = length s; payload = p ++ drop (length p) buffer; script = s ++ drop (length s) other }
round_trip s p n buffer other b f m lp ls =
    let gs = f.segments in
    let g = again s p n b f in
    let k = f.room in
    let z = read_back n gs g.2 f.have k in
    let o = f.filled in
    let a = ne_eqb (length p) 0 (λ e. omega arith) in
    rw (f.are, z.1, z.0, data_length n gs k, le-ltb 3886 n m, g.0, g.1, a, le-ltb (length buffer) (length p) lp, le-ltb (length other) (length s) ls)
