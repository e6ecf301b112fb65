-- A step with a removal whose from is above its to.
use Prim.Native.Nat.{ℕ}
use mathlib.Core.Path.{◌≡◌, sym}
use mathlib.Core.List.{List}
use Rattle.card.specs.Layout.{live}
use Rattle.batch.specs.Batch.{updates, applied, batch_number}
use Rattle.batch.specs.Claims.{EmptyRangeTakenOut}
use Rattle.batch.proofs.EmptyRanges.{empty_range_taken_out}
use Rattle.update.specs.Step.{remains, step_number, step}
use Rattle.history.specs.Claims.{EmptyRangeSameStep}

-- a step asks of a batch its number and what it makes of the live pairs
step_same : (c b d : List ℕ) → batch_number b ≡ batch_number d → applied (updates b) (live c) ≡ applied (updates d) (live c) → step c b ≡ step c d
unfolding step step_number remains
step_same c b d n e = rw (n, e)

pub empty_range_same_step : EmptyRangeSameStep
unfolding EmptyRangeSameStep EmptyRangeTakenOut
empty_range_same_step c b d k t a z n w m h e =
    let o = empty_range_taken_out b d k t a z n w m h e in
    step_same c _ _ (rw (e, o.0)) (sym (o.1 (live c)))
