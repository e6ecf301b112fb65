-- `figures::put_number` meets its contract. The invariant of its loop, Writing: the figures behind the first are written.
use Rattle.figures.proofs.Writing.{Writing}
use Rattle.figures.proofs.put_number.Given as goal

abbrev pub invariant-loop-i : goal.invariant-loop-i
invariant-loop-i l = Writing l.initial.memory l.at l.n l.memory l.i l.rest
