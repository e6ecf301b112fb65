-- `reader::read` meets its contract. The invariant: count postings are in the answer words, and the others are left in the reader.
use Rattle.found.specs.Found.{found}
use Rattle.reader.specs.code.Cursor.{left_at}
use Rattle.reader.proofs.Readings.{Taking}
use Rattle.reader.proofs.read.Given as goal

abbrev pub invariant-loop-count : goal.invariant-loop-count
invariant-loop-count l = Taking (found l.card l.fn.q.term l.fn.q.from l.fn.q.to) (left_at l.reader.card.now l.reader.cursor) l.initial.answer l.answer l.count
