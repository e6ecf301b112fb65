-- `lines::gather` meets its contract. The invariant of its loop, Gathering: the records of count lines stand in the memory.
use Rattle.std.specs.Slice.Iter.{split_inclusive_rest}
use Rattle.lines.proofs.Gathering.{Gathering}
use Rattle.lines.proofs.gather.Given as goal

abbrev pub invariant-loop-piece : goal.invariant-loop-piece
invariant-loop-piece l = Gathering l.bytes l.initial.records l.records (split_inclusive_rest l.piece-iterator) l.count
