-- `hx_from_data` meets its contract. Assumes nothing.
use Rattle.segments.specs.declared.Answer.TheVariants.{Read, TooLong, Broken, Empty, PayloadFull, ScriptFull}
use Rattle.comparison.proofs.Fields.{fields}
use Rattle.comparison.proofs.scripts.hx_from_data.Goals as goal

pub returns-in-Read : goal.returns-in-Read
returns-in-Read c = fields _ (Read c.in-Read.n c.in-Read.m) _ _ _ c.from_data-answer.ensures c.in-Read.is

pub returns-in-TooLong : goal.returns-in-TooLong
returns-in-TooLong c = fields _ TooLong _ _ _ c.from_data-answer.ensures c.in-TooLong.is

pub returns-in-Broken : goal.returns-in-Broken
returns-in-Broken c = fields _ Broken _ _ _ c.from_data-answer.ensures c.in-Broken.is

pub returns-in-Empty : goal.returns-in-Empty
returns-in-Empty c = fields _ Empty _ _ _ c.from_data-answer.ensures c.in-Empty.is

pub returns-in-PayloadFull : goal.returns-in-PayloadFull
returns-in-PayloadFull c = fields _ PayloadFull _ _ _ c.from_data-answer.ensures c.in-PayloadFull.is

pub returns-in-ScriptFull : goal.returns-in-ScriptFull
returns-in-ScriptFull c = fields _ ScriptFull _ _ _ c.from_data-answer.ensures c.in-ScriptFull.is
