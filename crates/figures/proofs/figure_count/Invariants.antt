-- `figures::figure_count` meets its contract. The invariant of its loop, Counting: the figures behind those of rest are counted.
use Rattle.figures.proofs.Writing.{Counting}
use Rattle.figures.proofs.figure_count.Given as goal

abbrev pub invariant-loop-rest : goal.invariant-loop-rest
invariant-loop-rest l = Counting l.n l.count l.rest

abbrev pub decreases-loop-rest : goal.decreases-loop-rest
decreases-loop-rest l = l.rest
