-- `batch::Cursor::pass_to` meets its contract. The invariant of its loop: what is passed from the cursor in hand on is what is asked for.
use Prim.Native.Nat.{◌-◌}
use mathlib.Core.Path.{◌≡◌}
use lib.ListN.{length}
use Rattle.batch.specs.code.Records.{updates_of}
use Rattle.batch.specs.code.Search.{passing}
use Rattle.batch.proofs.Cursor.pass_to.Given as goal

abbrev pub invariant-loop-words : goal.invariant-loop-words
invariant-loop-words l = passing (updates_of l.records) l.fn.self l.rank ≡ passing (updates_of l.records) l.cursor l.rank

abbrev pub decreases-loop-words : goal.decreases-loop-words
decreases-loop-words l = length l.records - l.cursor.passed.next
