-- `batch::rounds::fill_reaches` meets its contract. The invariant of its loop, Filling: the first n are written.
use Rattle.batch.proofs.Filling.{Filling}
use Rattle.batch.proofs.rounds.fill_reaches.Given as goal

abbrev pub invariant-loop-n : goal.invariant-loop-n
invariant-loop-n l = Filling l.batch l.initial.reaches l.reaches l.reach l.n
