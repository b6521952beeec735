-- What only proofs and the contracts of inner functions cite. Nobody has to believe it: the records say where a loop or a call stands.
use Rattle.std.specs.Prelude.{◌≡◌, Bool, true, false, List, [], ◌∷◌, ◌++◌, map, ℕ, zero, suc, ◌+◌, ◌-◌, ◌/◌, ◌<◌, ◌≤◌, length, get_or, take, drop}
use Rattle.bits.specs.Bits.{bits_of, first_words, store_at}
use Rattle.codewords.specs.Codewords.{placed, data_bits, to_stream, from_stream}

-- the square of a stream, and the stream of a square
abbrev pub square_of : (ℕ → ℕ) → List ℕ → List ℕ → List ℕ
square_of m ks s = placed m 0 ks (bits_of (from_stream s))

abbrev pub stream_in : ℕ → (ℕ → ℕ) → List ℕ → List ℕ → List ℕ
stream_in total m ks sq = to_stream (first_words 8 total (data_bits m 0 ks sq))

-- n places from p on, 13 apart; and those below total from k starts on, which the code takes one after the other
unfoldable pub steps : ℕ → ℕ → List ℕ
steps p zero = []
steps p (suc n) = p ∷ steps (p + 13) n

unfoldable pub starts : ℕ → ℕ → ℕ → List ℕ
starts total start zero = []
starts total start (suc k) = steps start ((total + 12 - start) / 13) ++ starts total (suc start) k

-- Codewords move to the stream (true) or out of it (false). With i codewords moved, the next is number i at the stream place p: where it
-- goes and where it comes from.
abbrev pub into : Bool → ℕ → ℕ → ℕ
into true p i = p
into false p i = i

abbrev pub out_of : Bool → ℕ → ℕ → ℕ
out_of true p i = i
out_of false p i = p

-- what all of them come to, and what comes of those from the i-th on with the places ps
abbrev pub moved : Bool → List ℕ → List ℕ
moved true cs = to_stream cs
moved false s = from_stream s

abbrev pub gone_on : Bool → List ℕ → List ℕ → List ℕ → ℕ → List ℕ
gone_on true cs out ps i = store_at ps (drop i cs) out
gone_on false s out ps i = take i out ++ map (λ p. get_or s p 0) ps

pub record Moving (d : Bool) (cs out ps : List ℕ) (i : ℕ) : Type 0 where
  pub size : length out ≡ length cs
  pub rest : i + length ps ≡ length cs
  pub left : gone_on d cs out ps i ≡ moved d cs

-- the first `total` of two buffers, from one start on
pub record Moves (d : Bool) (total : ℕ) (cs out : List ℕ) (start i : ℕ) : Type 0 where
  pub few : total ≤ 65535
  pub room : total ≤ length out
  pub whole : total ≤ length cs
  pub moving : Moving d (take total cs) (take total out) (starts (length (take total cs)) start (13 - start)) i

-- a square of modules, of which 2 is unknown, and at least as many kinds
pub record ModulesAndKinds (ks sq : List ℕ) : Type 0 where
  pub kinds : length sq ≤ length ks
  pub few : length sq ≤ 65535
  pub modules : (k : ℕ) → get_or sq k 0 < 3
