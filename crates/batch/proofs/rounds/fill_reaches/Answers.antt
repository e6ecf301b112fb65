-- `batch::rounds::fill_reaches` meets its contract. The invariant of its loop, Filling: the first n are written.
use native.Mathlib.Omega.{arith}
use mathlib.Core.Path.{◌≡◌, sym, ◌∙◌}
use lib.ListN.{length}
use borrow.Author.Tests.{eqb-true, eqb-false}
use Rattle.batch.proofs.Records.{array_in, array_beyond}
use Rattle.batch.proofs.Filling.{filling_turn, filling_other, filling_end, filling_full}
use Rattle.batch.proofs.rounds.fill_reaches.Goals as goal
use Rattle.batch.proofs.rounds.fill_reaches.Goals.{then-n-reaches-via-then-n-reaches, then-n-reaches-via-else-n-reaches+then-not-is_round}

pub returns-then-n-reaches : goal.returns-then-n-reaches
returns-then-n-reaches c = elim c.then-n-reaches.branch [
  | then-n-reaches-via-then-n-reaches w ↦ filling_full c.loop-n.invariant w.if-n-reaches.true
  | then-n-reaches-via-else-n-reaches+then-not-is_round w ↦
      filling_other c.loop-n.invariant _ (array_in _ _ c.records_of-records.ensures c.loop-n-test.true c.of-u.ensures)
      (eqb-false _ 3 (sym w.is_round.ensures ∙ w.if-not-is_round.true))
]

pub bounds-reaches-n : goal.bounds-reaches-n
bounds-reaches-n c = omega arith

pub loop-n-preserved : goal.loop-n-preserved
loop-n-preserved c =
    rw c.max-reach.ensures
    (filling_turn c.loop-n.invariant _ (array_in _ _ c.records_of-records.ensures c.loop-n-test.true c.of-u.ensures) (omega arith)
    (eqb-true _ 3 (sym c.is_round.ensures ∙ c.if-not-is_round.false)))

pub returns : goal.returns
returns c =
    let last : c.loop-n.n ≡ length c.records_of-records.result.now = omega arith in
    rw last at (filling_end c.loop-n.invariant (array_beyond _ _ c.records_of-records.ensures c.loop-n-test.false))
