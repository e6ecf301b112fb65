-- `batch::fill_arrivals` meets its contract. The invariant of its loop, Numbering: the first n are written.
use native.Mathlib.Omega.{arith}
use Rattle.batch.proofs.Numbering.{numbering_turn, numbering_end}
use Rattle.batch.proofs.fill_arrivals.Goals as goal

pub loop-n-preserved : goal.loop-n-preserved
loop-n-preserved c = numbering_turn _ c.loop-n.invariant _ c.loop-n-test.true (omega arith) c.of-arrival.ensures

pub returns : goal.returns
returns c =
    let e = numbering_end _ c.loop-n.invariant c.loop-n-test.false in
    record { value = e.0; numbers_after = e.1 }
