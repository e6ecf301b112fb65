-- Tests of any of the updates.
use mathlib.Core.Path.{◌≡◌, refl}
use mathlib.Core.Bool.{Bool, true, false, ◌||◌}
use mathlib.Core.List.{List, [], ◌∷◌, ◌++◌}
use Rattle.pair.proofs.Tests.{or_left, or_right, or_both}
use Rattle.batch.specs.Batch.{Update, any_update}

-- the first two change places
pub swap : (a b c : Bool) → (a || (b || c)) ≡ (b || (a || c))
swap true true c = refl
swap true false c = refl
swap false b c = refl

-- a test of any of the updates is one of it, and one of the others
pub any_with : (f : Update → Bool) (us vs : List Update) (u : Update) → any_update f (us ++ u ∷ vs) ≡ (f u || any_update f (us ++ vs))
unfolding any_update
any_with f [] vs u = refl
any_with f (w ∷ us) vs u = rw (any_with f us vs u) (swap (f w) (f u) (any_update f (us ++ vs)))

-- a test that fails wherever another does
pub any_less : (f g : Update → Bool) → ((u : Update) → g u ≡ false → f u ≡ false) → (us : List Update) → any_update g us ≡ false → any_update f us ≡ false
unfolding any_update
any_less f g less [] h = refl
any_less f g less (u ∷ us) h =
    or_both (f u) (any_update f us) (less u (or_left (g u) (any_update g us) h)) (any_less f g less us (or_right (g u) (any_update g us) h))
