-- What a `?` on a refusal needs to know of numbers.
use Rattle.std.proofs.Common.{◌<◌, ◌≡◌, ◌∙◌, Result, ap, arith}
use Rattle.std.specs.Result.{IsErrAnd}
use Rattle.std.proofs.lemmas.Result.{err_from_is_err_and}
use Rattle.refusal.specs.declared.Refusal.{Refusal}
use Rattle.refusal.specs.declared.Refusal.TheVariants.{WrongLength, UnknownFormat, BadConfiguration, BadBlocks, OutsideLimits, IllFormed, OrderFalls, Crowded, NoQuestion, TooFewWords, ShortMemory, OtherForm, TooManyLines, IllNumbered}
use Rattle.refusal.specs.Refusal.{number, number_of}

-- no refusal has the number 0
pub number_positive : (refusal : Refusal) → 0 < number refusal
number_positive WrongLength = omega arith
number_positive UnknownFormat = omega arith
number_positive BadConfiguration = omega arith
number_positive BadBlocks = omega arith
number_positive OutsideLimits = omega arith
number_positive IllFormed = omega arith
number_positive OrderFalls = omega arith
number_positive Crowded = omega arith
number_positive NoQuestion = omega arith
number_positive TooFewWords = omega arith
number_positive ShortMemory = omega arith
number_positive OtherForm = omega arith
number_positive TooManyLines = omega arith
number_positive IllNumbered = omega arith

-- what a `?` returns has the number of the refusal that it met: the last argument is `c.from_residual.ensures.1`
pub number_returned : {T : Type 0} (result : Result T Refusal) (refusal : Refusal) → IsErrAnd result (λ r. r ≡ refusal) → number_of result ≡ number refusal
number_returned result refusal h =
    let p = err_from_is_err_and result h in
    ap number_of p.1 ∙ ap number p.2
