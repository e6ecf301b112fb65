-- `repeat::Round::fill_slots` meets its contract. The invariant: of the numbers read some are in their slots, and the rest found another there.
use native.Mathlib.Omega.{arith}
use Rattle.repeat.proofs.Rounds.{leaving_start, leaving_put, leaving_left, leaving_found}
use Rattle.repeat.proofs.Round.fill_slots.Goals as goal

pub loop-x-init : goal.loop-x-init
loop-x-init c = leaving_start _ _ _ _ c.requires.empty

pub loop-x-preserved-then-held-eq0 : goal.loop-x-preserved-then-held-eq0
loop-x-preserved-then-held-eq0 c =
    rw c.from-mark.ensures (leaving_put c.loop-x.invariant c.loop-x-test.true c.slot_of-slot.result c.slot_of-slot.ensures.value (omega (arith, c.if-held-eq0.true)))

pub returns-then-held-mark : goal.returns-then-held-mark
returns-then-held-mark c =
    leaving_found c.loop-x.invariant c.loop-x-test.true c.slot_of-slot.result c.slot_of-slot.ensures.value (omega (arith, c.if-held-mark.true, c.from-mark.ensures))

pub loop-x-preserved : goal.loop-x-preserved
loop-x-preserved c =
    leaving_left c.loop-x.invariant c.loop-x-test.true c.slot_of-slot.result c.slot_of-slot.ensures.value
    c.if-held-eq0.false (λ z. c.if-held-mark.false (omega (arith, z, c.from-mark.ensures))) c.requires.numbers_in_bounds
