-- What inner functions say of each other. Nobody has to believe it.
use Rattle.std.specs.Prelude.{◌≡◌, Bool, false, List, map, ℕ, ◌+◌, ◌*◌, ◌/◌, ◌%◌, ◌^◌, ◌<◌, ◌≤◌, length, get_or, set, take, replicate}
use Rattle.general.specs.Each.{Each}
use Rattle.symbol.specs.Layout.{data_modules}
use Rattle.bits.specs.Bits.{first_words}
use Rattle.codewords.specs.Codewords.{data_bits}
use Rattle.codewords.specs.Inner.{ModulesAndKinds}

-- no module of a run is unknown, unless it is said so
pub record TellsRun (unknown : Bool) (sq : List ℕ) (from to : ℕ) : Type 0 where
  pub none : unknown ≡ false → (i : ℕ) → from ≤ i → i < to → get_or sq i 0 < 2

-- bytes with their bit p set, where it was 0
abbrev pub flagged : ℕ → List ℕ → List ℕ
flagged p fs = set fs (p / 8) (get_or fs (p / 8) 0 + 128 / 2 ^ (p % 8))

-- 1 for each unknown data module, 0 for the others
abbrev pub unknown_bits : List ℕ → List ℕ → List ℕ
unknown_bits ks sq = data_bits (λ i. 0) 0 ks (map (λ m. m / 2) sq)

-- the flags of a square in which the bits of the data modules before place i are as they have to be, and the others zero
pub record FlagsUpTo (ks sq : List ℕ) (i : ℕ) (fs : List ℕ) : Type 0 where
  pub given : ModulesAndKinds ks sq
  pub room : 8 * length fs ≤ length (unknown_bits ks sq)
  pub bits : List ℕ
  pub front : Each (λ k b. get_or (unknown_bits ks sq) k 0) (data_modules (take i ks)) (replicate (length (unknown_bits ks sq)) 0) bits
  pub is : fs ≡ first_words 8 (length fs) bits
