-- `batch::next_addition` meets its contract. The invariant of its loop: the search from the record in hand on finds what is asked for.
use Prim.Native.Nat.{max, ◌≤◌}
use mathlib.Core.Path.{◌≡◌}
use lib.ListN.{length}
use Rattle.batch.specs.code.Search.{next_addition}
use Rattle.batch.proofs.next_addition.Given as goal

abbrev pub invariant-loop-n : goal.invariant-loop-n
invariant-loop-n l = (l.n ≤ max l.from (length l.records)) × (next_addition l.batch l.from l.above ≡ next_addition l.batch l.n l.above)
