-- `update::old::skip` meets its contract. The invariant of its loop, Skips: the pairs passed over are not above the rank.
use Rattle.update.specs.code.Old.{pending}
use lib.ListN.{length}
use Rattle.update.proofs.Skipping.{Skips}
use Rattle.update.proofs.old.skip.Given as goal

abbrev pub invariant-loop-o : goal.invariant-loop-o
invariant-loop-o l = Skips l.card l.initial.o l.rank l.o

abbrev pub decreases-loop-o : goal.decreases-loop-o
decreases-loop-o l = length (pending l.card l.o)
