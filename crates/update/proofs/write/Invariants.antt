-- `update::write` meets its contract. The invariant of its loop, Copied: the first i words are in place.
use Rattle.update.proofs.Copying.{Copied}
use Rattle.update.proofs.write.Given as goal

abbrev pub invariant-loop-i : goal.invariant-loop-i
invariant-loop-i l = Copied l.initial.card l.at l.words l.card l.i
