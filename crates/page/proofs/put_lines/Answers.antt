-- `page::put_lines` meets its contract.
use native.Mathlib.Omega.{arith}
use Rattle.page.proofs.Lines.{lining_turn}
use Rattle.page.proofs.Parts.{part_put}
use Rattle.page.proofs.put_lines.Goals as goal

pub loop-i-preserved : goal.loop-i-preserved
loop-i-preserved c = lining_turn (omega arith) c.loop-i.invariant c.put_line.ensures
    (part_put _ _ _ _ (omega arith) (omega (arith, c.requires, c.loop-i.auto.memory, c.loop-i-test.true)) c.put_line.auto.line)
