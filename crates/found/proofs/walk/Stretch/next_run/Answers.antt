-- `found::walk::Stretch::next_run` meets its contract. The invariant, Seeking: the blocks that were left behind hold nothing wanted.
use Rattle.std.proofs.Common.{refl}
use Rattle.found.proofs.Walking.{seeking_start, seeking_turn, seeking_hit, seeking_end}
use Rattle.found.proofs.walk.Stretch.next_run.Goals as goal

pub loop-place-init : goal.loop-place-init
loop-place-init c = seeking_start _ _ _ _

pub returns-then-part-gt0-clause-some : goal.returns-then-part-gt0-clause-some
returns-then-part-gt0-clause-some c =
    seeking_hit c.loop-place.invariant c.in-Some.ensures.some c.place_part-part.ensures c.if-part-gt0.true

pub loop-place-preserved : goal.loop-place-preserved
loop-place-preserved c =
    seeking_turn c.loop-place.invariant c.in-Some.ensures.some c.place_part-part.ensures c.if-part-gt0.false

pub returns-clause-none : goal.returns-clause-none
returns-clause-none c = λ e r. seeking_end c.loop-place.invariant (c.in_default.ensures.none refl) r
