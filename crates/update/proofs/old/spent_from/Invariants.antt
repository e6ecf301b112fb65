-- `update::old::spent_from` meets its contract. The invariant, Freeing: the first n old places have no pair above the rank.
use Rattle.update.specs.code.Old.{Freeing}
use Rattle.update.proofs.old.spent_from.Given as goal

abbrev pub invariant-loop-n : goal.invariant-loop-n
invariant-loop-n l = Freeing l.card l.rank l.n
