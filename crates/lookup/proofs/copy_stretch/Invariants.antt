-- `lookup::copy_stretch` meets its contract. The invariant, Moving: the positions that are left behind are moved.
use Rattle.lookup.proofs.Gathering.{Moving}
use Rattle.lookup.proofs.copy_stretch.Given as goal

abbrev pub invariant-loop-place : goal.invariant-loop-place
invariant-loop-place l = Moving l.card l.initial.answer l.term l.to l.initial.rest l.rest l.at l.answer l.next

abbrev pub decreases-loop-place : goal.decreases-loop-place
decreases-loop-place l = l.rest.blocks
