-- SPECIFICATION 12.1: the edges that are proved, in its order. Each is a definition that contracts cite, applied, and the value there.
use Rattle.std.specs.Prelude.{Bool, true, ◌&&◌, List, [], ◌∷◌, ℕ, get_or, take, replicate}
use Rattle.field.specs.Field.{power}
use Rattle.symbol.specs.Version.{side_refusal, side_version}
use Rattle.information.specs.Information.{info_bits}
use Rattle.codewords.specs.Codewords.{order}
use Rattle.segments.specs.FromData.{DataOutcome, from_data}
use Rattle.script.specs.Writer.{same}

pub record Edge : Type 0 where
  pub actual : List ℕ
  pub expected : List ℕ

-- a number as the one element of a list
abbrev pub one : ℕ → ℕ → Edge
one actual expected = record { actual = actual ∷ []; expected = expected ∷ [] }

-- what Segments from data gives: the refusal number and the payload
unfoldable pub payload_in : DataOutcome → List ℕ
payload_in o = o.number ∷ take o.payload_length o.payload

abbrev pub reads : List ℕ → List ℕ → Edge
reads ds expected = record { actual = payload_in (from_data ds (replicate 8 0) (replicate 8 0)); expected = expected }

unfoldable pub edges : List Edge
edges =
    -- side 23 is version 1, 189 is 84; 22, 24, 191 get 1
    one (side_version 23) 1 ∷ one (side_version 189) 84 ∷ one (side_refusal 22) 1 ∷ one (side_refusal 24) 1 ∷ one (side_refusal 191) 1
    -- α^8 = 63, α^10 = EF
    ∷ one (power 0x163 8) 0x63 ∷ one (power 0x163 10) 0xEF
    -- the word of (1, 0, 0)
    ∷ one (info_bits 1 0 0) 0x5423D300
    -- "007" and "5"; 10 in one digit and no group get 7
    ∷ reads (0x10 ∷ 0x1F ∷ 0xFF ∷ []) (0 ∷ 0x30 ∷ 0x30 ∷ 0x37 ∷ []) ∷ reads (0x10 ∷ 0x17 ∷ 0xFD ∷ []) (0 ∷ 0x35 ∷ []) ∷ reads
    (0x10 ∷ 0x2B ∷ 0xFD ∷ []) (7 ∷ []) ∷ reads (0x1F ∷ 0xF4 ∷ []) (7 ∷ [])
    -- text "a"
    ∷ reads (0x29 ∷ 0x3F ∷ []) (0 ∷ 0x61 ∷ [])
    -- with 25 codewords the 2nd goes to place 13, the last to 12
    ∷ one (get_or (order 25) 1 0) 13 ∷ one (get_or (order 25) 24 0) 12
    -- two-byte 23939 is FE FE, 23940 gets 7
    ∷ reads (0x6B ∷ 0xB0 ∷ 0x7F ∷ 0xFF ∷ 0xC0 ∷ []) (0 ∷ 0xFE ∷ 0xFE ∷ []) ∷ reads (0x6B ∷ 0xB0 ∷ 0x9F ∷ 0xFF ∷ 0xC0 ∷ []) (7 ∷ [])
    -- four-byte 1587599 is FE 39 FE 39, 1587600 gets 7
    ∷ reads (0x7C ∷ 0x1C ∷ 0xC7 ∷ 0x80 ∷ []) (0 ∷ 0xFE ∷ 0x39 ∷ 0xFE ∷ 0x39 ∷ []) ∷ reads (0x7C ∷ 0x1C ∷ 0xC8 ∷ 0x00 ∷ []) (7 ∷ [])
    ∷ []

-- ---- what it means that they hold

unfoldable pub hold : List Edge → Bool
hold [] = true
hold (e ∷ es) = same e.actual e.expected && hold es
