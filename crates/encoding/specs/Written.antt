-- What the contracts of inner functions say: bits that a function has written, and the position behind them. Nobody has to believe
-- anything here.
use Rattle.std.specs.Prelude.{◌≡◌, List, ◌++◌, ℕ, ◌+◌, ◌-◌, ◌*◌, length, get_or, take}
use Rattle.bits.specs.Bits.{bits_of, word_bits}

-- the bytes s became t, with the bits bs written behind those before the position i, and r is the position behind them; what follows is open
pub record Written (s : List ℕ) (i : ℕ) (bs : List ℕ) (r : ℕ) (t : List ℕ) : Type 0 where
  pub behind : r ≡ i + length bs
  pub bits : take r (bits_of t) ≡ take i (bits_of s) ++ bs

-- to write the words us of w bits into the bytes t from the position a on is what is left of writing ws into s from i on
pub record WordsLeft (w : ℕ) (s : List ℕ) (i : ℕ) (ws t : List ℕ) (a : ℕ) (us : List ℕ) : Type 0 where
  pub place : a + w * length us ≡ i + w * length ws
  pub bits : take a (bits_of t) ++ word_bits w us ≡ take i (bits_of s) ++ word_bits w ws

-- three digits from a place on, as a number
abbrev pub group_at : List ℕ → ℕ → ℕ
group_at run j = (get_or run j 0 - 48) * 100 + (get_or run (j + 1) 0 - 48) * 10 + (get_or run (j + 2) 0 - 48)
