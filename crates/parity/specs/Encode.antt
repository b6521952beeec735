-- SPECIFICATION 3.8 and 10.6: the parity of a block, for the writer. What the call answers, and what is then in the block.
use Rattle.std.specs.Prelude.{cond, List, [], ◌++◌, ℕ, ◌-◌, length, take}
use Rattle.std.proofs.Math.Option.{get_or}
use Rattle.reed_solomon.specs.Block.{parity_of, unfit}
use Rattle.parity.specs.declared.Encoded.{Encoded}
use Rattle.parity.specs.declared.Encoded.TheVariants.{Written, Unfit}

-- what a call gives: 0 or the refusal number, and the block as it is left
pub record Encoding : Type 0 where
  pub number : ℕ
  pub block : List ℕ

-- the data of a block: all but its last bytes
abbrev pub data_part : ℕ → List ℕ → List ℕ
data_part parity block = take (length block - parity) block

-- the data of a block followed by their parity; there always is one where they are fit
unfoldable pub written_of : ℕ → ℕ → ℕ → List ℕ → List ℕ
written_of poly first parity block = data_part parity block ++ get_or (parity_of poly first parity (data_part parity block)) []

-- 5, and the block untouched, as in Correct a block; else 0, and the parity written behind the data
unfoldable pub encode_of : ℕ → ℕ → ℕ → List ℕ → Encoding
encode_of poly first parity block =
    cond (unfit parity block) (record { number = 5; block = block }) (record { number = 0; block = written_of poly first parity block })

-- the refusal number (SPECIFICATION 2.7) for each case of the answer, with the block
unfoldable pub encoding : Encoded → List ℕ → Encoding
encoding Written block = record { number = 0; block = block }
encoding Unfit block = record { number = 5; block = block }
