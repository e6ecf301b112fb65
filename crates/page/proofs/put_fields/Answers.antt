-- `page::put_fields` meets its contract.
use mathlib.Core.Path.{◌≡◌}
use native.Mathlib.Omega.{arith}
use Rattle.page.proofs.Fields.{fielding_turn, fielding_end}
use Rattle.page.proofs.Parts.{part_put}
use Rattle.page.proofs.put_fields.Goals as goal

pub loop-j-preserved : goal.loop-j-preserved
loop-j-preserved c = fielding_turn _ c.loop-j.invariant c.next.ensures.steps.first c.put_field.ensures
    (part_put _ _ _ _ (omega arith) (omega (arith, c.requires, c.loop-j.auto.fields, c.loop-j-test.true)) c.put_field.auto.field)

pub returns : goal.returns
returns c =
    let e : c.loop-j.j ≡ 5 = omega (arith, c.loop-j-test.false, c.loop-j.auto.j-end) in
    fielding_end (rw e at c.loop-j.invariant) c.requires
