-- `repeat::Round::fill_slots` meets its contract. The invariant: of the numbers read some are in their slots, and the rest found another there.
use lib.ListN.{length}
use Rattle.repeat.proofs.Rounds.{Leaving}
use Rattle.repeat.proofs.Round.fill_slots.Given as goal

abbrev pub invariant-loop-x : goal.invariant-loop-x
invariant-loop-x l = Leaving l.self.bits l.numbers (length l.initial.rest) l.slots l.rest l.left l.x-index
