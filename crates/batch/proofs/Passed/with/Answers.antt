-- `batch::Passed::with` meets its contract.
use mathlib.Core.Path.{sym, ◌∙◌}
use borrow.Author.Tests.{eq-eqb, ne_eqb}
use Rattle.batch.proofs.Search.{one_added, one_removed, one_annulled, one_other}
use Rattle.batch.proofs.Passed.with.Goals as goal

pub returns-then-added-self : goal.returns-then-added-self
returns-then-added-self c =
    rw (c.first_rank-added.ensures, c.max-arrived.ensures)
    (one_added _ _ _ (sym c.kind.ensures ∙ c.in-Some-Adds.is ∙ rw c.in-Some-Adds.field-0-is) (rw (eq-eqb _ _ (rw c.first_rank-added.ensures at c.if-added-self.true))))

pub returns-else-added-self : goal.returns-else-added-self
returns-else-added-self c =
    rw c.first_rank-added.ensures
    (one_added _ _ _ (sym c.kind.ensures ∙ c.in-Some-Adds.is ∙ rw c.in-Some-Adds.field-0-is) (rw (ne_eqb _ _ (rw c.first_rank-added.ensures at c.if-added-self.false))))

pub returns-in-Some-Removes : goal.returns-in-Some-Removes
returns-in-Some-Removes c =
    rw (c.max.ensures, c.last_rank.ensures) (one_removed _ _ (sym c.kind.ensures ∙ c.in-Some-Removes.is ∙ rw c.in-Some-Removes.field-0-is))

pub returns-in-Some-Annuls : goal.returns-in-Some-Annuls
returns-in-Some-Annuls c = rw c.max-in-Some-Annuls.ensures (one_annulled _ _ (sym c.kind.ensures ∙ c.in-Some-Annuls.is ∙ rw c.in-Some-Annuls.field-0-is))

pub returns-in-None : goal.returns-in-None
returns-in-None c = one_other _ _ (sym c.kind.ensures ∙ c.in-None.is)
