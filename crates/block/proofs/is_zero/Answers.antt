-- `block::is_zero` meets its contract. The invariant, Zeros: all words are 0 exactly where those read are and the rest is.
use Rattle.block.proofs.Walk.{zeros_turn, zeros_end}
use Rattle.block.proofs.is_zero.Goals as goal

pub loop-word-preserved : goal.loop-word-preserved
loop-word-preserved c = zeros_turn c.loop-word.invariant c.loop-word-test.true

pub returns : goal.returns
returns c = zeros_end c.loop-word.invariant c.loop-word-test.false
