-- `reader::read` meets its contract.
use native.Mathlib.Omega.{arith}
use Rattle.reader.proofs.Readings.{taking_turn, taking_full, taking_end, refused_reading}
use Rattle.reader.proofs.read.Goals as goal

pub returns-in-None : goal.returns-in-None
returns-in-None c = taking_end _ _ _ _ c.loop-count.invariant c.in-None.ensures.steps.first.0 (omega (arith, c.loop-count.auto.count-end)) c.in_ok-cursor.ensures.number

pub loop-count-preserved : goal.loop-count-preserved
loop-count-preserved c = taking_turn c.loop-count.invariant c.in-Some.ensures.steps.first

pub returns : goal.returns
returns c = taking_full _ _ _ _ c.loop-count.invariant (omega (arith, c.loop-count-test.false, c.loop-count.auto.count-end)) c.in_ok-cursor.ensures.number

pub returns-in_err-cursor : goal.returns-in_err-cursor
returns-in_err-cursor c = refused_reading _ _ _ _ _ _ c.from_residual.result c.from_residual.ensures.1 c.in_err-cursor.ensures.number
