-- What the exported functions answer.
use Rattle.std.specs.Prelude.{◌≡◌, cond, List, ℕ, ◌<◌, eqb, length}
use Rattle.field.specs.Field.{mul}
use Rattle.corrector.specs.declared.Correction.{Correction}
use Rattle.corrector.specs.Correct.{BlockOutcome, refused_block, outcome}
use Rattle.erasure_corrector.specs.Erased.{correct_erased_of}
use Rattle.parity.specs.Encode.{Encoding}

abbrev pub outcome_of : ℕ → ℕ → List ℕ → BlockOutcome
outcome_of n c b = record { number = n; count = c; block = b }

-- the numbers say of each block what the answer says of it
pub record Answers (c : Correction) (number count : ℕ) : Type 0 where
  pub are : (b : List ℕ) → outcome_of number count b ≡ outcome c b

-- a block with erased places; 2 where there is not a flag for each byte
unfoldable pub flagged_of : ℕ → List ℕ → List ℕ → BlockOutcome
flagged_of parity flags block = cond (eqb (length flags) (length block)) (correct_erased_of 0x163 1 parity flags block) (refused_block 2 block)

abbrev pub encoding_of : ℕ → List ℕ → Encoding
encoding_of n b = record { number = n; block = b }

-- a byte that gives a when it is multiplied by b; 0 where b is 0
pub record IsQuotient (a b r : ℕ) : Type 0 where
  pub some : 0 < b → mul 0x163 r b ≡ a
  pub none : b ≡ 0 → r ≡ 0
