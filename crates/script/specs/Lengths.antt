-- The numbers of bits of commands by the formulas of SPECIFICATION 9.4, by which the code counts. Nobody has to believe them: they are the
-- lengths of what Writer says (proofs/Theorems, `bits-by-formulas`).
use Rattle.std.specs.Prelude.{Bool, true, false, cond, not, List, [], ◌∷◌, ℕ, suc, ◌+◌, ◌*◌, ◌/◌, ltb, eqb, length}
use Rattle.segments.specs.Script.{Segment, run, eci}
use Rattle.script.specs.Writer.{in_subset, in_region}

-- how often text and regions switch
unfoldable pub text_switches : Bool → List ℕ → ℕ
text_switches subset [] = 0
text_switches subset (b ∷ bs) =
    let same = text_switches subset bs in
    let other = suc (text_switches (not subset) bs) in
    cond (in_subset subset b) same other

unfoldable pub region_switches : Bool → List ℕ → ℕ
region_switches region [] = 0
region_switches region (a ∷ []) = 0
region_switches region (a ∷ b ∷ bs) =
    let same = region_switches region bs in
    let other = suc (region_switches (not region) bs) in
    cond (in_region region a b) same other

-- the number of bits of n bytes in a mode, by the formulas of SPECIFICATION 9.4
unfoldable pub mode_length : ℕ → List ℕ → ℕ
mode_length mode bs =
    cond (eqb mode 1) (14 + 10 * ((length bs + 2) / 3))
    (cond (eqb mode 2) (10 + 6 * (length bs + text_switches true bs))
    (cond (eqb mode 3) (17 + 8 * length bs)
    (cond (eqb mode 4) (16 + 12 * (length bs / 2 + region_switches true bs))
    (cond (eqb mode 5) (16 + 12 * (length bs / 2 + region_switches false bs))
    (cond (eqb mode 6) (19 + 15 * (length bs / 2)) 25)))))

unfoldable pub eci_length : ℕ → ℕ
eci_length v = cond (ltb v 128) 12 (cond (ltb v 16384) 20 28)

abbrev pub bits_of_segment : Segment → ℕ
bits_of_segment (run mode bs) = mode_length mode bs
bits_of_segment (eci v) = eci_length v

unfoldable pub bits_of_segments : List Segment → ℕ
bits_of_segments [] = 0
bits_of_segments (g ∷ gs) = bits_of_segment g + bits_of_segments gs
