-- `wanted::block_part` meets its contract. The invariant of its loop, Seek: what is wanted of the block stands in the words from i on.
use Prim.Native.Nat.{◌-◌}
use lib.ListN.{length}
use Rattle.wanted.proofs.Seeking.{Seek}
use Rattle.wanted.proofs.block_part.Given as goal

abbrev pub invariant-loop-next : goal.invariant-loop-next
invariant-loop-next l = Seek l.words l.term l.after l.to l.i

abbrev pub decreases-loop-next : goal.decreases-loop-next
decreases-loop-next l = length l.words - l.i
