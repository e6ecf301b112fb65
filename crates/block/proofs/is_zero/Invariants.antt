-- `block::is_zero` meets its contract. The invariant, Zeros: all words are 0 exactly where those read are and the rest is.
use Rattle.block.proofs.Walk.{Zeros}
use Rattle.block.proofs.is_zero.Given as goal

abbrev pub invariant-loop-word : goal.invariant-loop-word
invariant-loop-word l = Zeros l.words l.ok l.word-index
