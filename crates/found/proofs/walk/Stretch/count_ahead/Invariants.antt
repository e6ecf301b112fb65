-- `found::walk::Stretch::count_ahead` meets its contract. The invariant, Taking: so many positions are left behind.
use Rattle.found.proofs.Walking.{Taking}
use Rattle.found.proofs.walk.Stretch.count_ahead.Given as goal

abbrev pub invariant-loop-place : goal.invariant-loop-place
invariant-loop-place l = Taking l.card l.term l.to l.initial.rest l.rest l.count

abbrev pub decreases-loop-place : goal.decreases-loop-place
decreases-loop-place l = l.rest.blocks
