-- `batch::survey` meets its contract.
use Rattle.batch.proofs.Records.{reads_turn, reads_end}
use Rattle.batch.proofs.survey.Goals as goal

pub loop-words-preserved : goal.loop-words-preserved
loop-words-preserved c =
    rw (c.is_ill_formed-ill_formed.ensures, c.first_rank-rank.ensures) (reads_turn c.loop-words.invariant c.loop-words-test.true _ c.of-u.ensures)

pub returns-clause-formed : goal.returns-clause-formed
returns-clause-formed c = (reads_end c.loop-words.invariant c.loop-words-test.false).0

pub returns-clause-ordered : goal.returns-clause-ordered
returns-clause-ordered c = (reads_end c.loop-words.invariant c.loop-words-test.false).1
