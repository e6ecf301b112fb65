-- The number of each refusal, and of an answer that may be one.
use Rattle.std.specs.Prelude.{ℕ, Result, Ok, Err}
use Rattle.refusal.specs.declared.Refusal.{Refusal}
use Rattle.refusal.specs.declared.Refusal.TheVariants.{WrongLength, UnknownFormat, BadConfiguration, BadBlocks, OutsideLimits, IllFormed, OrderFalls, Crowded, NoQuestion, TooFewWords, ShortMemory, OtherForm, TooManyLines, IllNumbered}

abbrev pub number : Refusal → ℕ
number WrongLength = 1
number UnknownFormat = 2
number BadConfiguration = 3
number BadBlocks = 4
number OutsideLimits = 5
number IllFormed = 6
number OrderFalls = 7
number Crowded = 8
number NoQuestion = 9
number TooFewWords = 10
number ShortMemory = 11
number OtherForm = 12
number TooManyLines = 13
number IllNumbered = 14

-- 0 where it is none
abbrev pub number_of : {T : Type 0} → Result T Refusal → ℕ
number_of (Ok value) = 0
number_of (Err refusal) = number refusal
