-- `page::text::put_column` meets its contract.
use native.Mathlib.Omega.{arith}
use Rattle.page.proofs.Columns.{figuring_start, figuring_turn, figuring_end}
use Rattle.page.proofs.text.put_column.Goals as goal

pub loop-place-init : goal.loop-place-init
loop-place-init c = figuring_start _ _ (omega arith) c.requires (c.fill.ensures.after (λ y e. e))

pub returns-then-rest-eq0 : goal.returns-then-rest-eq0
returns-then-rest-eq0 c = figuring_end c.loop-place.invariant c.last_figure.ensures c.if-rest-eq0.true

pub loop-place-preserved : goal.loop-place-preserved
loop-place-preserved c = figuring_turn c.loop-place.invariant c.last_figure.ensures c.if-rest-eq0.false
