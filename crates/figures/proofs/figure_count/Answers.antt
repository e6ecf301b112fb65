-- `figures::figure_count` meets its contract. The invariant of its loop, Counting: the figures behind those of rest are counted.
use native.Mathlib.Omega.{arith}
use Rattle.figures.proofs.Writing.{counting_start, counting_turn, counting_end}
use Rattle.figures.proofs.figure_count.Goals as goal

pub loop-rest-init : goal.loop-rest-init
loop-rest-init c = counting_start _ (omega arith)

pub loop-rest-preserved : goal.loop-rest-preserved
loop-rest-preserved c = counting_turn c.loop-rest.invariant c.loop-rest-test.true

pub returns : goal.returns
returns c = counting_end c.loop-rest.invariant c.loop-rest-test.false
