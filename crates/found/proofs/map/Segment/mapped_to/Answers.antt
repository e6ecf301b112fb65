-- `found::map::Segment::mapped_to` meets its contract: a search by halving of a map that rises. The invariant, Searching: the count that is sought lies from low to high.
use native.Mathlib.Omega.{arith}
use mathlib.Core.Path.{ap, ◌∙◌}
use Rattle.card.specs.Layout.{first_pair}
use Rattle.found.proofs.Mapping.{search_start, search_up, search_down, search_end}
use Rattle.found.proofs.map.Segment.mapped_to.Goals as goal

pub loop-low-init : goal.loop-low-init
loop-low-init c = search_start _ _ _ _

pub loop-low-preserved-then-first_pair-rank : goal.loop-low-preserved-then-first_pair-rank
loop-low-preserved-then-first_pair-rank c = search_up c.loop-low.invariant c.requires.ordered (omega arith) (omega arith) (c.first_pair.ensures ∙ ap (first_pair _) c.place_on-place.ensures) c.if-first_pair-rank.true

pub loop-low-preserved : goal.loop-low-preserved
loop-low-preserved c = search_down c.loop-low.invariant c.requires.ordered (omega arith) (omega arith) (c.first_pair.ensures ∙ ap (first_pair _) c.place_on-place.ensures) c.if-first_pair-rank.false

pub returns : goal.returns
returns c = search_end c.loop-low.invariant c.loop-low-test.false c.requires
