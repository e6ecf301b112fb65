-- `page::text::put_column` meets its contract. The invariant: the last figures are written, those of rest are not.
use Rattle.page.proofs.Columns.{Figuring}
use Rattle.page.proofs.text.put_column.Given as goal

abbrev pub invariant-loop-place : goal.invariant-loop-place
invariant-loop-place l = Figuring l.n l.columns l.place l.rest
