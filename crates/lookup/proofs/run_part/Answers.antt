-- `lookup::run_part` meets its contract: the run of the walk, or none.
use Rattle.std.proofs.Common.{refl}
use Rattle.lookup.proofs.CodeAnswers.{viewed_refused, viewed_none}
use Rattle.lookup.proofs.run_part.Goals as goal

pub returns-in_err-walk : goal.returns-in_err-walk
returns-in_err-walk c =
    viewed_refused _ _ _ _ c.from_residual.result c.in_err-walk.field-0.0 c.in_err-walk.ensures.number c.from_residual.ensures.1

pub returns-in-None : goal.returns-in-None
returns-in-None c = viewed_none c.in_ok-walk.ensures.number c.in_ok-walk.ensures.walk (c.in-None.ensures.none refl)
