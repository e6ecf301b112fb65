-- `update::due::fill` meets its contract. The invariant of its loop, Fills: what remains is the pairs put so far and what is left above the
-- pair in hand. The measure is what is left.
use lib.ListN.{length}
use Rattle.update.specs.code.Merge.{Merges, left}
use Rattle.update.proofs.Fills.{Fills}
use Rattle.update.proofs.due.fill.Given as goal

abbrev pub invariant-loop-next : goal.invariant-loop-next
invariant-loop-next l = Fills l.pass.card.now l.pass.batch.now l.words l.packing l.place.rank × Merges l.pass.card.now l.pass.batch.now l.place

abbrev pub decreases-loop-next : goal.decreases-loop-next
decreases-loop-next l = length (left l.pass.card.now l.pass.batch.now l.place.rank)
