-- `update::check` meets its contract: the judge's refusal, or the batch's.
use mathlib.Core.Path.{◌∙◌}
use Rattle.refusal.proofs.Numbers.{number_returned}
use Rattle.update.proofs.Steps.{number_card, number_batch}
use Rattle.update.proofs.check.Goals as goal

pub returns-in_err-judge-clause-number : goal.returns-in_err-judge-clause-number
returns-in_err-judge-clause-number c = number_returned _ _ c.from_residual.ensures.1 ∙ number_card _ _ _ c.in_err-judge.ensures

pub returns-clause-number : goal.returns-clause-number
returns-clause-number c = c.check.ensures ∙ number_batch _ _ c.in_ok-judge.ensures
