-- `update::write` meets its contract. The invariant of its loop, Copied: the first i words are in place.
use Rattle.update.proofs.Copying.{copied_start, copied_turn, copied_end}
use Rattle.update.proofs.write.Goals as goal

pub loop-i-init : goal.loop-i-init
loop-i-init c = copied_start _ _ _

pub loop-i-preserved : goal.loop-i-preserved
loop-i-preserved c = copied_turn c.loop-i.invariant c.loop-i-test.true

pub returns : goal.returns
returns c = copied_end c.loop-i.invariant c.loop-i-test.false
