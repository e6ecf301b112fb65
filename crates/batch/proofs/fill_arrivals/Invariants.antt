-- `batch::fill_arrivals` meets its contract. The invariant of its loop, Numbering: the first n are written.
use Rattle.batch.proofs.Numbering.{Numbering}
use Rattle.batch.proofs.fill_arrivals.Given as goal

abbrev pub invariant-loop-n : goal.invariant-loop-n
invariant-loop-n l = Numbering l.records l.initial.numbers l.numbers l.unnumbered l.n
