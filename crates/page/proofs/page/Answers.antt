-- `page::page` meets its contract: the postings are counted, and if there are bytes enough the lines are put.
use native.Mathlib.Omega.{arith}
use Rattle.page.proofs.CodeAnswers.{answered_refused, answered_short, answered_lines}
use Rattle.page.proofs.page.Goals as goal

pub returns-in_err-counted : goal.returns-in_err-counted
returns-in_err-counted c =
    answered_refused _ _ _ _ _ _ c.from_residual.result c.from_residual.ensures.1 c.in_err-counted.ensures.number

pub returns-then-memory-lines : goal.returns-then-memory-lines
returns-then-memory-lines c =
    let o = c.in_ok-counted.ensures in
    answered_short _ _ _ _ _ o.number o.count.0 c.div_ceil-lines.ensures (omega arith) c.if-memory-lines.true

pub returns : goal.returns
returns c =
    let o = c.in_ok-counted.ensures in
    answered_lines _ _ _ _ _ o.number o.count.0 c.div_ceil-lines.ensures (omega arith) c.if-memory-lines.false o.left c.put_lines.ensures
