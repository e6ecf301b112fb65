-- `batch::rounds::Rounds::begun` meets its contract.
use native.Mathlib.Omega.{arith}
use mathlib.Core.Path.{sym, ◌∙◌}
use Rattle.batch.specs.code.Rounds.{begun}
use Rattle.batch.proofs.Annulling.{halving_most, begun_halves, stands_beyond, stands_most}
use Rattle.batch.proofs.rounds.Rounds.begun.Goals as goal
use Rattle.batch.proofs.rounds.Rounds.begun.Goals.{else-at-self-via-then-at-self+else-stands-2, else-at-self-via-else-at-self}

pub returns-then-stands-clause-value : goal.returns-then-stands-clause-value
unfolding begun
returns-then-stands-clause-value c = rw (sym c.stands.ensures ∙ c.if-stands.true)

pub returns-then-stands-clause-few : goal.returns-then-stands-clause-few
returns-then-stands-clause-few c = stands_most _ _ _ _ (sym c.stands.ensures ∙ c.if-stands.true)

pub returns-then-stands-2-clause-value : goal.returns-then-stands-2-clause-value
unfolding begun
returns-then-stands-2-clause-value c = rw (sym c.stands.ensures ∙ c.if-stands.false, sym c.stands-then-at-self.ensures ∙ c.if-stands-2.true)

pub returns-clause-value : goal.returns-clause-value
returns-clause-value c =
    rw c.halve.ensures (begun_halves _ _ _ _ (sym c.stands.ensures ∙ c.if-stands.false)
    (elim c.else-at-self.branch [
      | else-at-self-via-then-at-self+else-stands-2 w ↦ sym w.stands-then-at-self.ensures ∙ w.if-stands-2.false
      | else-at-self-via-else-at-self w ↦ stands_beyond _ _ _ _ (omega (arith, w.if-at-self.false))
    ]))

pub returns-clause-few : goal.returns-clause-few
returns-clause-few c = rw c.halve.ensures (halving_most _ _ _ _ _ (omega arith))
