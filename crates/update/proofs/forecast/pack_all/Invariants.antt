-- `update::forecast::pack_all` meets its contract. The invariant of its loop, Packs: what is packed and what is left above the pair in hand are what
-- remains. The measure is what is left.
use lib.ListN.{length}
use Rattle.update.specs.code.Merge.{Merges, left}
use Rattle.update.specs.code.Tally.{Packs}
use Rattle.update.proofs.forecast.pack_all.Given as goal

abbrev pub invariant-loop-next : goal.invariant-loop-next
invariant-loop-next l = Packs l.pass.card.now l.pass.batch.now l.filling l.place.rank × Merges l.pass.card.now l.pass.batch.now l.place

abbrev pub decreases-loop-next : goal.decreases-loop-next
decreases-loop-next l = length (left l.pass.card.now l.pass.batch.now l.place.rank)
