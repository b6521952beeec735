-- What inner functions say of each other. Nobody has to believe it: the contracts of the operations do not cite it.
use Rattle.std.specs.Prelude.{◌≡◌, cond, ◌⊎◌, List, ℕ, ◌<◌, eqb}
use Rattle.segments.specs.declared.Answer.{Answer}
use Rattle.segments.specs.FromData.{DataOutcome, data_outcome}
use Rattle.marks.specs.Receipt.{receipt_of, refusal_receipt}
use Rattle.receipts.specs.declared.Mark.{Mark}
use Rattle.receipts.specs.declared.SquareAnswer.{SquareAnswer}

-- the receipt of an answer
unfoldable pub receipt_in : Mark → SquareAnswer → List ℕ
receipt_in m t = cond (eqb t.number 0) (receipt_of m.version m.level m.mask t.count m.distance t.payload t.script) (refusal_receipt t.number)

-- the numbers of an answer fit the receipt
pub record FitsReceipt (t : SquareAnswer) : Type 0 where
  pub number : t.number < 256
  pub count : t.count < 65536
  pub payload : t.payload < 65536
  pub script : t.script < 65536

-- a refusal with nothing beside it
pub record Refuses (n : ℕ) (t : SquareAnswer) : Type 0 where
  pub number : t.number ≡ n
  pub count : t.count ≡ 0
  pub payload : t.payload ≡ 0
  pub script : t.script ≡ 0

-- t is the answer for a square by the answer a of Segments from data
pub record FromAnswer (a : Answer) (n : ℕ) (t : SquareAnswer) : Type 0 where
  pub is : (p s : List ℕ) → data_outcome a p s ≡ record { number = t.number; payload_length = t.payload; script_length = t.script; payload = p; script = s }
  pub count : (t.count ≡ 0) ⊎ (t.count ≡ n)
  pub zero : t.number ≡ 0 → t.count ≡ n

-- t is the answer for a square by an outcome of Segments from data, p and s being the buffers afterwards
pub record FromOutcome (n : ℕ) (o : DataOutcome) (t : SquareAnswer) (p s : List ℕ) : Type 0 where
  pub outcome : o ≡ record { number = t.number; payload_length = t.payload; script_length = t.script; payload = p; script = s }
  pub count : t.number ≡ 0 → t.count ≡ n
  pub small : FitsReceipt t
