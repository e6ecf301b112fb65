-- `batch::Latest::of` meets its contract. The invariant of its loop: the latest of the rest, from the latest in hand on, is what is asked for.
use mathlib.Core.Path.{sym, ◌∙◌}
use Rattle.batch.specs.code.Search.{latest_of}
use Rattle.batch.proofs.Records.{array_at, array_end}
use Rattle.batch.proofs.Latest.of.Goals as goal

pub loop-words-preserved : goal.loop-words-preserved
unfolding latest_of
loop-words-preserved c = c.loop-words.invariant ∙ rw (array_at _ _ c.loop-words-test.true c.of.ensures, c.with-latest.ensures)

pub returns : goal.returns
unfolding latest_of
returns c = sym (c.loop-words.invariant ∙ rw (array_end _ _ c.loop-words-test.false))
