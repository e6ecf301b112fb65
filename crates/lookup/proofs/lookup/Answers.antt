-- `lookup::lookup` meets its contract: the walk is counted, and if there are words enough its positions are moved.
use Rattle.lookup.proofs.CodeAnswers.{answered_refused, answered_short, answered_found}
use Rattle.lookup.proofs.lookup.Goals as goal

pub returns-in_err-walk : goal.returns-in_err-walk
returns-in_err-walk c =
    answered_refused _ _ _ _ _ c.from_residual.result c.in_err-walk.field-0.0 c.in_err-walk.ensures.number c.from_residual.ensures.1

pub returns-then-answer-count : goal.returns-then-answer-count
returns-then-answer-count c = answered_short c.in_ok-walk.ensures.number c.in_ok-walk.ensures.counted c.if-answer-count.true

pub returns : goal.returns
returns c = answered_found _ c.in_ok-walk.ensures.number c.in_ok-walk.ensures.counted c.if-answer-count.false c.copy_ahead.ensures
