-- `square_answer` meets its contract. Assumes nothing.
use Rattle.general.proofs.Names.{refl, arith}
use Rattle.segments.specs.declared.Answer.TheVariants.{TooLong, Broken, Empty, PayloadFull, ScriptFull}
use Rattle.receipts.proofs.Answers.{from_answer_read, from_answer_refused}
use Rattle.receipts.proofs.square_answer.Goals as goal

pub returns-in-Read : goal.returns-in-Read
returns-in-Read c = from_answer_read _ _ _ _ _ c.in-Read.is refl refl refl refl

pub returns-in-TooLong : goal.returns-in-TooLong
returns-in-TooLong c = from_answer_refused _ TooLong _ _ _ c.in-TooLong.is (λ p s. refl) (λ n. omega arith) c.refused.ensures

pub returns-in-Broken : goal.returns-in-Broken
returns-in-Broken c = from_answer_refused _ Broken _ _ _ c.in-Broken.is (λ p s. refl) (λ n. omega arith) c.refused-in-Broken.ensures

pub returns-in-Empty : goal.returns-in-Empty
returns-in-Empty c = from_answer_refused _ Empty _ _ _ c.in-Empty.is (λ p s. refl) (λ n. omega arith) c.refused-in-Empty.ensures

pub returns-in-PayloadFull : goal.returns-in-PayloadFull
returns-in-PayloadFull c = from_answer_refused _ PayloadFull _ _ _ c.in-PayloadFull.is (λ p s. refl) (λ n. omega arith) c.refused-in-PayloadFull.ensures

pub returns-in-ScriptFull : goal.returns-in-ScriptFull
returns-in-ScriptFull c = from_answer_refused _ ScriptFull _ _ _ c.in-ScriptFull.is (λ p s. refl) (λ n. omega arith) c.refused-in-ScriptFull.ensures
