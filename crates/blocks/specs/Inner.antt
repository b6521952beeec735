-- What inner functions say of each other, and those of `block_writer`. Nobody has to believe it: the contracts of `correct_blocks`,
-- `data_length`, `gather_data` and `write_blocks` do not cite it.
use Rattle.std.specs.Prelude.{◌≡◌, ℕ, zero, suc, ◌+◌, ◌*◌, ◌≤◌, ◌<◌, length, take, drop, get_or}
use mathlib.Core.List.{List, [], ◌∷◌, ◌++◌, foldr}
use Rattle.reed_solomon.specs.Block.{parity_of}
use Rattle.corrector.specs.Correct.{BlockOutcome}
use Rattle.erasure_corrector.specs.Erased.{correct_erased_of}
use Rattle.corrector.specs.declared.Correction.{Correction}
use Rattle.corrector.specs.declared.Correction.TheVariants as Correction
use Rattle.block_table.specs.Blocks.{Shape, size, batch, shapes, data_parts}
use Rattle.blocks.specs.Blockwise.{blocks_of, corrected}
use Rattle.blocks.specs.declared.Batch.{Batch}
use Rattle.blocks.specs.declared.Blocks.{Blocks}
use Rattle.blocks.specs.declared.Blocks.TheVariants.{Corrected, Refused}
use Rattle.parity.specs.Inner.{with_parity}

-- the data parts of the corrected blocks of a stream, joined in block order
abbrev pub corrected_data : List Shape → List ℕ → List ℕ → List ℕ
corrected_data bs flags stream = data_parts bs (blocks_of (corrected bs flags stream))

-- batch k of a row, and as it is read
abbrev pub batch_of : List ℕ → ℕ → Batch
batch_of r k = record { count = get_or r (3 * k) 0; info = get_or r (3 * k + 1) 0; parity = get_or r (3 * k + 2) 0 }

pub record Reads (r : List ℕ) (k : ℕ) (b : Batch) : Type 0 where
  pub is : b ≡ batch_of r k
  pub info : b.info ≤ 255
  pub parity : b.parity ≤ 255
  pub «data» : b.count * b.info ≤ 65025

-- the blocks of a batch
abbrev pub blocks_in : Batch → List Shape
blocks_in b = batch b.count b.info b.parity

-- the blocks of a row from batch k on
unfoldable pub behind : ℕ → List ℕ → List Shape
behind zero r = shapes r
behind (suc zero) r = blocks_in (batch_of r 1) ++ blocks_in (batch_of r 2)
behind (suc (suc zero)) r = blocks_in (batch_of r 2)
behind (suc (suc (suc k))) r = []

-- s with xs in the place of its n bytes from a on
unfoldable pub spliced : ℕ → ℕ → List ℕ → List ℕ → List ℕ
spliced a n xs s = take a s ++ (xs ++ drop (a + n) s)

-- Blocks corrected one after the other.

-- the answer for blocks, and the stream that is left
pub record StreamOutcome : Type 0 where
  pub answer : Blocks
  pub stream : List ℕ

-- the answer for a block as that for blocks
unfoldable pub answer_of : Correction → Blocks
answer_of (Correction.Corrected n) = Corrected n
answer_of Correction.Unfit = Refused 5
answer_of Correction.TooManyErased = Refused 15
answer_of Correction.OutOfReach = Refused 6

-- n corrections more
abbrev pub more : ℕ → Blocks → Blocks
more n (Corrected m) = Corrected (n + m)
more n (Refused k) = Refused k

abbrev pub add_corrections : ℕ → StreamOutcome → StreamOutcome
add_corrections n q = record { answer = more n q.answer; stream = q.stream }

-- behind a block with a refusal number, or 0, that leaves the stream s: what the other blocks come to, or nothing more
abbrev pub onward : ℕ → ℕ → List ℕ → StreamOutcome → StreamOutcome
onward zero n s q = add_corrections n q
onward (suc k) n s q = record { answer = Refused (suc k); stream = s }

-- what the corrector gives for the block at the place a, with the flags fl beside the stream
abbrev pub outcome_at : List ℕ → Shape → ℕ → List ℕ → BlockOutcome
outcome_at fl b a s = correct_erased_of 0x163 1 b.parity (take (size b) (drop a fl)) (take (size b) (drop a s))

abbrev pub left_at : List ℕ → Shape → ℕ → List ℕ → List ℕ
left_at fl b a s = spliced a (size b) (outcome_at fl b a s).block s

-- the blocks from a on
unfoldable pub outcome_from : List ℕ → List Shape → ℕ → List ℕ → StreamOutcome
outcome_from fl [] a s = record { answer = Corrected 0; stream = s }
outcome_from fl (b ∷ bs) a s =
    onward (outcome_at fl b a s).number (outcome_at fl b a s).count (left_at fl b a s) (outcome_from fl bs (a + size b) (left_at fl b a s))

pub record Corrects (fl : List ℕ) (bs : List Shape) (a : ℕ) (s s' : List ℕ) (r : Blocks) : Type 0 where
  pub is : record { answer = r; stream = s' } ≡ outcome_from fl bs a s

-- there are no flags, or enough of them
pub record Flagged (fl : List ℕ) (n : ℕ) : Type 0 where
  pub enough : 0 < length fl → n ≤ length fl

-- a refusal has a number
pub record Numbered (r : Blocks) : Type 0 where
  pub pos : (k : ℕ) → r ≡ Refused k → 0 < k

-- Something of each block of t put in its place in s, one after the other.

-- how many codewords a block fills in s, how many it has in t, and what it makes of those
pub record Transfer : Type 0 where
  pub fills : Shape → ℕ
  pub takes : Shape → ℕ
  pub makes : Shape → List ℕ → List ℕ

abbrev pub gathering : Transfer
gathering = record { fills = λ b. b.info; takes = λ b. size b; makes = λ b t. take b.info t }

abbrev pub writing : Transfer
writing = record {
  fills = λ b. size b;
  takes = λ b. b.info;
  makes = λ b t. with_parity (take b.info t) (parity_of 0x163 1 b.parity (take b.info t));
}

unfoldable pub sum : (Shape → ℕ) → List Shape → ℕ
sum f bs = foldr (λ b n. f b + n) 0 bs

-- the blocks of t from f on, put into s from a on
unfoldable pub transferred : Transfer → List Shape → ℕ → ℕ → List ℕ → List ℕ → List ℕ
transferred w [] a f t s = s
transferred w (b ∷ bs) a f t s = transferred w bs (a + w.fills b) (f + w.takes b) t (spliced a (w.fills b) (w.makes b (drop f t)) s)

-- there is room for them
pub record TransferRoom (w : Transfer) (bs : List Shape) (a f : ℕ) (t s : List ℕ) : Type 0 where
  pub into : a + sum w.fills bs ≤ length s
  pub out : f + sum w.takes bs ≤ length t
