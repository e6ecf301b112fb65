-- `lookup::copy_stretch` meets its contract. The invariant, Moving: the positions that are left behind are moved.
use Prim.Native.Nat.{◌+◌, ◌≤◌}
use native.Mathlib.Omega.{arith}
use mathlib.Core.Path.{refl}
use lib.ListN.{length}
use Rattle.lookup.proofs.Gathering.{part_copied, moving_start, moving_room, moving_turn, moving_end}
use Rattle.lookup.proofs.copy_stretch.Goals as goal

pub loop-place-init : goal.loop-place-init
loop-place-init c = moving_start _ _ c.requires.ready

pub slice_bounds-move_words-end-in-Some : goal.slice_bounds-move_words-end-in-Some
slice_bounds-move_words-end-in-Some c =
    omega (arith, moving_room c.loop-place.invariant c.in-Some.ensures.some c.place_part-start.ensures c.requires.answer_in_bounds, c.loop-place.auto.answer)

pub loop-place-preserved : goal.loop-place-preserved
loop-place-preserved c =
    let room = moving_room c.loop-place.invariant c.in-Some.ensures.some c.place_part-start.ensures c.requires.answer_in_bounds in
    let fits : c.loop-place.next + c.place_part-start.result.len ≤ length c.loop-place.answer = omega (arith, room, c.loop-place.auto.answer) in
    moving_turn c.loop-place.invariant c.in-Some.ensures.some c.place_part-start.ensures
    (part_copied _ _ _ _ _ c.place_part-start.ensures.inside fits c.move_words.ensures)

pub returns-clause-word : goal.returns-clause-word
returns-clause-word c = (moving_end c.loop-place.invariant (c.in_default.ensures.none refl)).0

pub returns-clause-answer : goal.returns-clause-answer
returns-clause-answer c = (moving_end c.loop-place.invariant (c.in_default.ensures.none refl)).1
