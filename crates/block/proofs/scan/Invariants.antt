-- `block::scan` meets its contract. The invariant of its loop, Reading: what the block is as a whole is what the words from i on are, after a pair of the term and the position in hand.
use Prim.Native.Nat.{◌-◌}
use lib.ListN.{length}
use Rattle.block.proofs.Scanning.{Reading}
use Rattle.block.proofs.scan.Given as goal

abbrev pub invariant-loop-term : goal.invariant-loop-term
invariant-loop-term l = Reading l.words l.ok l.i l.term l.position

abbrev pub decreases-loop-term : goal.decreases-loop-term
decreases-loop-term l = length l.words - l.i

-- in a turn: the l.words, the place of the entry, the invariant, and that an entry stands there
