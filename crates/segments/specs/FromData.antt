-- SPECIFICATION 10.7: Segments from data. The first refusal that applies is given, each tested over the whole input; a refusal
-- changes neither buffer, and both lengths are then 0.
use Rattle.std.specs.Prelude.{Bool, true, false, cond, List, ◌++◌, ℕ, ltb, eqb, length, drop}
use Rattle.segments.specs.declared.Answer.{Answer}
use Rattle.segments.specs.declared.Answer.TheVariants.{Read, TooLong, Broken, Empty, PayloadFull, ScriptFull}
use Rattle.segments.specs.Script.{Segment, payload_of, script_of}
use Rattle.segments.specs.Segments.{Ending, end_mark, few_bits, broken, segments_of}

-- what the operation answers and what the two lent buffers hold afterwards
pub record DataOutcome : Type 0 where
  pub number : ℕ
  pub payload_length : ℕ
  pub script_length : ℕ
  pub payload : List ℕ
  pub script : List ℕ

-- a refusal leaves the payload buffer p and the script buffer c as they were
abbrev pub refused_data : ℕ → List ℕ → List ℕ → DataOutcome
refused_data k p c = record { number = k; payload_length = 0; script_length = 0; payload = p; script = c }

-- segments put into the buffers p and c
abbrev pub in_buffers : List Segment → List ℕ → List ℕ → DataOutcome
in_buffers gs p c =
    cond (eqb (length (payload_of gs)) 0) (refused_data 8 p c)
    (cond (ltb (length p) (length (payload_of gs))) (refused_data 9 p c)
    (cond (ltb (length c) (length (script_of gs))) (refused_data 10 p c)
    (record {
      number = 0;
      payload_length = length (payload_of gs);
      script_length = length (script_of gs);
      payload = payload_of gs ++ drop (length (payload_of gs)) p;
      script = script_of gs ++ drop (length (script_of gs)) c;
    })))

-- data that end inside a segment, or at a value or mode that its rule lacks
abbrev pub is_broken : Ending → Bool
is_broken end_mark = false
is_broken few_bits = false
is_broken (broken bad) = true

-- Segments from data: the data s, the payload buffer p and the script buffer c
abbrev pub from_data : List ℕ → List ℕ → List ℕ → DataOutcome
from_data s p c =
    cond (ltb 3886 (length s)) (refused_data 2 p c)
    (cond (is_broken (segments_of s).end) (refused_data 7 p c) (in_buffers (segments_of s).segments p c))

-- what an answer says, with what the buffers hold afterwards
abbrev pub data_outcome : Answer → List ℕ → List ℕ → DataOutcome
data_outcome (Read n m) p c = record { number = 0; payload_length = n; script_length = m; payload = p; script = c }
data_outcome TooLong p c = refused_data 2 p c
data_outcome Broken p c = refused_data 7 p c
data_outcome Empty p c = refused_data 8 p c
data_outcome PayloadFull p c = refused_data 9 p c
data_outcome ScriptFull p c = refused_data 10 p c
