-- `batch::survey` meets its contract. The invariant of its loop, Reads: what the two flags say of the records read, with what is so of
-- the rest, is so of all.
use Rattle.batch.proofs.Records.{Reads}
use Rattle.batch.proofs.survey.Given as goal

abbrev pub invariant-loop-words : goal.invariant-loop-words
invariant-loop-words l = Reads l.records l.ill_formed l.falls l.before l.words-index
