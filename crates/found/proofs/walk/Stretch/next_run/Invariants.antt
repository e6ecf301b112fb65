-- `found::walk::Stretch::next_run` meets its contract. The invariant, Seeking: the blocks that were left behind hold nothing wanted.
use Rattle.found.proofs.Walking.{Seeking}
use Rattle.found.proofs.walk.Stretch.next_run.Given as goal

abbrev pub invariant-loop-place : goal.invariant-loop-place
invariant-loop-place l = Seeking l.card l.term l.to l.initial.self l.self

abbrev pub decreases-loop-place : goal.decreases-loop-place
decreases-loop-place l = l.self.blocks
