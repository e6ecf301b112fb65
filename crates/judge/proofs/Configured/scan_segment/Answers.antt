-- `Configured::scan_segment` meets its contract: one turn of the walk.
use mathlib.Core.Path.{◌∙◌}
use Rattle.pair.specs.Rank.{Words}
use Rattle.card.proofs.Ordered.{place_on_law}
use Rattle.judge.proofs.Judging.{walking_turn}
use Rattle.judge.proofs.Configured.scan_segment.Goals as goal

pub loop-j-preserved : goal.loop-j-preserved
unfolding Words
loop-j-preserved c =
    walking_turn c.loop-j.invariant c.args.self.words c.loop-j-test.true _ (c.place_on.ensures ∙ place_on_law c.args.self.ordered _ _)
    c.in_ok-block.block c.in_ok-block.ensures c.if-block-last.false
