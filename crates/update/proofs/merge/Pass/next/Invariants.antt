-- `update::merge::next` meets its contract. The invariant of its loop: the place in hand is one of the merge, and what is left above its pair
-- is what was left at first. The measure is the pairs, old and added, above it.
use mathlib.Core.Path.{◌≡◌}
use lib.ListN.{length}
use Rattle.pair.specs.Rising.{above}
use Rattle.card.specs.Layout.{live}
use Rattle.batch.specs.Batch.{updates, with_added}
use Rattle.update.specs.code.Merge.{Merges, left}
use Rattle.update.proofs.merge.Pass.next.Given as goal

abbrev pub invariant-loop-rank : goal.invariant-loop-rank
invariant-loop-rank l = Merges l.self.card.now l.self.batch.now l.place × (left l.self.card.now l.self.batch.now l.initial.place.rank ≡ left l.self.card.now l.self.batch.now l.place.rank)

abbrev pub decreases-loop-rank : goal.decreases-loop-rank
decreases-loop-rank l = length (above l.place.rank (with_added (updates l.self.batch.now) (live l.self.card.now)))
