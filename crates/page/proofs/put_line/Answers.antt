-- `page::put_line` meets its contract: head, fields and line feed make the line.
use native.Mathlib.Omega.{arith}
use Rattle.page.proofs.Lines.{line_put}
use Rattle.page.proofs.put_line.Goals as goal

pub returns : goal.returns
returns c =
    line_put _ _ _ _ (omega arith) c.requires c.put_head.ensures c.put_fields.ensures c.put_fields.auto.fields
