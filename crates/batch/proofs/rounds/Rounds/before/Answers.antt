-- `batch::rounds::Rounds::before` meets its contract.
use native.Mathlib.Omega.{arith}
use mathlib.Core.Path.{sym, ◌∙◌}
use Rattle.batch.proofs.Annulling.{reached_of, before_reached, before_all, before_next}
use Rattle.batch.proofs.rounds.Rounds.before.Goals as goal

pub returns-then-reach_to : goal.returns-then-reach_to
returns-then-reach_to c =
    let b = c.begun-begun.ensures in
    before_reached _ _ _ _ _ _ _ b.value (sym (reached_of _ _ _ (omega arith) c.first.ensures.reaches) ∙ (sym c.reach_to.ensures ∙ c.if-reach_to.true))

pub returns-then-begun-self : goal.returns-then-begun-self
returns-then-begun-self c =
    let b = c.begun-begun.ensures in
    before_all _ _ _ _ _ _ _ b.value (sym (reached_of _ _ _ (omega arith) c.first.ensures.reaches) ∙ (sym c.reach_to.ensures ∙ c.if-reach_to.false)) c.if-begun-self.true

pub returns : goal.returns
returns c =
    let b = c.begun-begun.ensures in
    rw (c.min.ensures, c.saturating_sub.ensures, c.start-start.ensures, c.from.ensures)
    (before_next _ _ _ _ _ _ _ b.value (sym (reached_of _ _ _ (omega arith) c.first.ensures.reaches) ∙ (sym c.reach_to.ensures ∙ c.if-reach_to.false)) (omega arith))
