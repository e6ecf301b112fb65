-- `scores::put_outcome` meets its contract.
use Rattle.scores.specs.Outcome.{printed}
use Rattle.scores.proofs.put_outcome.Goals as goal

pub returns-in-Ok-clause-value : goal.returns-in-Ok-clause-value
unfolding printed
returns-in-Ok-clause-value c = rw c.in-Ok.is c.put_line.ensures.value

pub returns-in-Err-clause-value : goal.returns-in-Err-clause-value
unfolding printed
returns-in-Err-clause-value c = rw c.in-Err.is c.put_line-in-Err.ensures.value
