-- SPECIFICATION 2.7: the refusals, each with its number.
use Rattle.std.specs.Prelude.{ℕ, Result, Ok, Err}
use Rattle.refusal.specs.declared.Refusal.{Refusal}
use Rattle.refusal.specs.declared.Refusal.TheVariants.{OutOfRange, WrongLength, NoModule, FarInformation, NoBlock, OutOfReach, Broken, Empty, PayloadFull, ScriptFull, NoScript, Lacking, TooManyBits, NoVersionHolds, TooManyErased, NoHead, HeadWaits}

abbrev pub number_of : Refusal → ℕ
number_of OutOfRange = 1
number_of WrongLength = 2
number_of NoModule = 3
number_of FarInformation = 4
number_of NoBlock = 5
number_of OutOfReach = 6
number_of Broken = 7
number_of Empty = 8
number_of PayloadFull = 9
number_of ScriptFull = 10
number_of NoScript = 11
number_of Lacking = 12
number_of TooManyBits = 13
number_of NoVersionHolds = 14
number_of TooManyErased = 15
number_of NoHead = 16
number_of HeadWaits = 17

-- the number of a refusal, or 0 where there is an answer
abbrev pub number : {A : Type 0} → Result A Refusal → ℕ
number (Ok _) = 0
number (Err e) = number_of e
