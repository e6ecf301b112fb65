-- `page::put_fields` meets its contract. The invariant: j fields are put, and the reader stands behind their postings.
use Rattle.reader.specs.code.PostingReader.{left_in}
use Rattle.page.proofs.Fields.{Fielding}
use Rattle.page.proofs.put_fields.Given as goal

abbrev pub invariant-loop-j : goal.invariant-loop-j
invariant-loop-j l = Fielding (left_in l.initial.reader) l.initial.fields (left_in l.reader) l.fields l.j
