-- `found::walk::Stretch::count_ahead` meets its contract. The invariant, Taking: so many positions are left behind.
use native.Mathlib.Omega.{arith}
use mathlib.Core.Path.{refl, sym, ap, ◌∙◌}
use lib.ListN.{length}
use Rattle.found.proofs.Walking.{taking_start, taking_turn, taking_most, taking_end}
use Rattle.found.proofs.walk.Stretch.count_ahead.Goals as goal

pub loop-place-init : goal.loop-place-init
loop-place-init c = taking_start c.requires.ready

pub overflow_add-count : goal.overflow_add-count
overflow_add-count c =
    omega (arith, taking_most c.loop-place.invariant c.in-Some.ensures.some c.place_part-part.ensures, c.requires.few)

pub loop-place-preserved : goal.loop-place-preserved
loop-place-preserved c = taking_turn c.loop-place.invariant c.in-Some.ensures.some c.place_part-part.ensures

pub returns : goal.returns
returns c =
    c.loop-place.invariant.count ∙ sym (ap length (taking_end c.loop-place.invariant (c.in_default.ensures.none refl)))
