-- `batch::Latest::of` meets its contract. The invariant of its loop: the latest of the rest, from the latest in hand on, is what is asked for.
use mathlib.Core.Path.{◌≡◌}
use lib.ListN.{drop}
use Rattle.batch.specs.code.Records.{updates_of}
use Rattle.batch.specs.code.Search.{latest_of, none}
use Rattle.batch.proofs.Latest.of.Given as goal

abbrev pub invariant-loop-words : goal.invariant-loop-words
invariant-loop-words l = latest_of l.rank none (updates_of l.records) ≡ latest_of l.rank l.latest (drop l.words-index (updates_of l.records))
