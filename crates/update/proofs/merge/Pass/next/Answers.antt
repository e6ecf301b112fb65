-- `update::merge::next` meets its contract. The invariant of its loop: the place in hand is one of the merge, and what is left above its pair
-- is what was left at first. The measure is the pairs, old and added, above it.
use mathlib.Core.Path.{◌∙◌}
use borrow.Author.Tests.{not-true, not-false}
use Rattle.card.proofs.Facts.{facts}
use Rattle.update.proofs.Merging.{Turn, turn_end, turn_less, turn_kept, turn_withdrawn, turn_merges}
use Rattle.update.proofs.merge.Pass.next.Goals as goal
use Rattle.update.proofs.merge.Pass.next.Goals.{After-lesser}

turn : (c : After-lesser) → Turn c.args.self.card.now c.args.self.batch.now c.loop-rank.place c.skip-old.result c.next_addition-added.result c.lesser.result
turn c =
    record {
      sound = facts c.args.self.card.now c.args.self.sound;
      in_order = c.args.self.in_order;
      skipped = c.skip-old.ensures;
      addition = c.next_addition-added.ensures;
      pair = c.lesser.ensures ∙ rw c.in_hand.ensures;
    }

pub returns-in_default : goal.returns-in_default
returns-in_default c =
    let t = turn (goal.at.returns-in_default c).After-lesser in
    let i = c.loop-rank.invariant in
    i.1 ∙ turn_end i.0 t c.in_default.is

pub returns-then-not-decision : goal.returns-then-not-decision
returns-then-not-decision c =
    let t = turn (goal.at.returns-then-not-decision c).After-lesser in
    let i = c.loop-rank.invariant in
    let d = rw c.args.self.reached at c.decide-decision.ensures in
    record {
      next = i.1 ∙ turn_kept i.0 t _ c.in-Some.is _ d (not-true _ c.if-not-decision.true);
      merges = turn_merges i.0 t _ c.in-Some.is _ d;
    }

pub loop-rank-smaller : goal.loop-rank-smaller
loop-rank-smaller c = turn_less c.loop-rank.invariant.0 (turn (goal.at.loop-rank-smaller c).After-lesser) _ c.in-Some.is

pub loop-rank-preserved : goal.loop-rank-preserved
loop-rank-preserved c =
    let t = turn (goal.at.loop-rank-preserved c).After-lesser in
    let i = c.loop-rank.invariant in
    let d = rw c.args.self.reached at c.decide-decision.ensures in
    (turn_merges i.0 t _ c.in-Some.is _ d, i.1 ∙ turn_withdrawn i.0 t _ c.in-Some.is _ d (not-false _ c.if-not-decision.false))
