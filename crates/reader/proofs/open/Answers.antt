-- `reader::open` meets its contract: refused, the reader has the walk that has nothing ahead.
use mathlib.Core.Path.{refl, ◌∙◌}
use Rattle.found.proofs.Walking.{spent_walk_ready, spent_walk_ahead}
use Rattle.reader.proofs.Cursors.{no_walk, stands_before, all_found, none_yielded}
use Rattle.reader.proofs.open.Goals.{in-Ok, in-Err}
use Rattle.reader.proofs.open.Goals as goal

pub returns-clause-left : goal.returns-clause-left
returns-clause-left c =
    elim c.match-open_at.branch [
      | in-Ok w ↦ rw w.number-is (w.in-Ok.ensures.cursor.rest ∙ all_found _ _ _ _ w.in-Ok.ensures.number)
      | in-Err w ↦ rw (w.number-is, w.before-in-Err.ensures) (spent_walk_ahead _ no_walk refl ∙ none_yielded _ _ _ _ _ w.in-Err.ensures.number)
    ]

pub invariant_of-result : goal.invariant_of-result
invariant_of-result c =
    elim c.match-open_at.branch [
      | in-Ok w ↦ rw w.number-is record { stands = w.in-Ok.ensures.cursor.stands }
      | in-Err w ↦ rw (w.number-is, w.before-in-Err.ensures) record { stands = stands_before (spent_walk_ready _ no_walk refl) }
    ]
