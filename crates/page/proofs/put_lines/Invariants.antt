-- `page::put_lines` meets its contract. The invariant: i lines are put, and the reader stands behind their postings.
use Rattle.reader.specs.code.PostingReader.{left_in}
use Rattle.page.proofs.Lines.{Lining}
use Rattle.page.proofs.put_lines.Given as goal

abbrev pub invariant-loop-i : goal.invariant-loop-i
invariant-loop-i l = Lining l.term (left_in l.initial.reader) l.initial.memory (left_in l.reader) l.memory l.i
