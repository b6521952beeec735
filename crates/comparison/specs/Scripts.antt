-- The numbers and buffers of an outcome of Segments from data, and the numbers of an answer of the check of a script.
use Rattle.std.specs.Prelude.{◌≡◌, List, ℕ}
use Rattle.segments.specs.FromData.{DataOutcome}
use Rattle.script.specs.declared.Check.{Check}
use Rattle.script.specs.declared.Check.TheVariants.{Bits, Malformed, Lacking, Empty}

abbrev pub DataSays : DataOutcome → ℕ → ℕ → ℕ → List ℕ → List ℕ → Type 0
DataSays o refusal n m p c = (refusal ≡ o.number) × (n ≡ o.payload_length) × (m ≡ o.script_length) × (p ≡ o.payload) × (c ≡ o.script)

-- the refusal number, and the number of bits beside it
abbrev pub ScriptSays : Check → ℕ → ℕ → Type 0
ScriptSays (Bits b) refusal n = (refusal ≡ 0) × (n ≡ b)
ScriptSays Malformed refusal n = (refusal ≡ 11) × (n ≡ 0)
ScriptSays Lacking refusal n = (refusal ≡ 12) × (n ≡ 0)
ScriptSays Empty refusal n = (refusal ≡ 8) × (n ≡ 0)
