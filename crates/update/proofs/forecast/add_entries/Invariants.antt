-- `update::forecast::add_entries` meets its contract. The invariant of its loop, Sweeps: the pairs up to the last one are packed, and the place stands at
-- it. The measure is what is left.
use lib.ListN.{length}
use Rattle.update.specs.code.Merge.{left}
use Rattle.update.proofs.Sweeping.{Sweeps}
use Rattle.update.proofs.forecast.add_entries.Given as goal

abbrev pub invariant-loop-place : goal.invariant-loop-place
invariant-loop-place l = Sweeps l.pass.card.now l.pass.batch.now l.fn.start.place.rank l.bound l.place.addition l.place.decisions l.place.old l.filling l.place.rank

abbrev pub decreases-loop-place : goal.decreases-loop-place
decreases-loop-place l = length (left l.pass.card.now l.pass.batch.now l.place.rank)
