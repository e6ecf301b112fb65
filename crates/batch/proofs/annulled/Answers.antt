-- `batch::annulled` meets its contract.
use mathlib.Core.Path.{◌∙◌}
use Rattle.batch.proofs.Annulling.{annulled_added}
use Rattle.batch.proofs.annulled.Goals as goal

pub returns-then-passed : goal.returns-then-passed
returns-then-passed c = c.annul_later.ensures ∙ annulled_added _ _ _ _ _ c.args.begun.paired c.if-reach_to.ensures c.if-not-added.false c.if-passed.true
