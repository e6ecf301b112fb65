-- `figures::number` meets its contract. The invariant of its loop, Reading: what is read is worth value, and the rest decides.
use Rattle.figures.proofs.Reading.{Reading}
use Rattle.figures.proofs.number.Given as goal

abbrev pub invariant-loop-byte : goal.invariant-loop-byte
invariant-loop-byte l = Reading l.bytes l.value l.byte-index
