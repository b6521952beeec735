-- An outcome's numbers and buffers from the answer.
use Rattle.general.proofs.Names.{◌≡◌, ap, subst, List, ℕ}
use Rattle.segments.specs.declared.Answer.{Answer}
use Rattle.segments.specs.FromData.{DataOutcome, data_outcome}
use Rattle.comparison.specs.Scripts.{DataSays}

pub fields : (r q : Answer) (p c : List ℕ) (o : DataOutcome) → data_outcome r p c ≡ o → r ≡ q
    → DataSays o (data_outcome q p c).number (data_outcome q p c).payload_length (data_outcome q p c).script_length (data_outcome q p c).payload (data_outcome q p c).script
fields r q p c o e f =
    let g : data_outcome q p c ≡ o = subst (λ (z : Answer). data_outcome z p c ≡ o) f e in (
      ap (λ (z : DataOutcome). z.number) g,
      ap (λ (z : DataOutcome). z.payload_length) g,
      ap (λ (z : DataOutcome). z.script_length) g,
      ap
          (λ (z : DataOutcome). z.payload) g,
      ap (λ (z : DataOutcome). z.script) g,
    )
