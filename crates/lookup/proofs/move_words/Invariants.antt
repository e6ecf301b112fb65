-- `lookup::move_words` meets its contract. The invariant: the first words are copied.
use lib.ListN.{length}
use Rattle.pair.proofs.Copying.{Copying}
use Rattle.lookup.proofs.move_words.Given as goal

abbrev pub invariant-loop-j : goal.invariant-loop-j
invariant-loop-j l = Copying l.words l.initial.answer 0 (length l.words) 0 l.answer l.j
