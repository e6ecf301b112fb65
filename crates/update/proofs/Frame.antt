-- The frame: on cards that differ in free places and their map entries at most, the same remains, and the same step number stands.
use Prim.Native.Nat.{ℕ}
use mathlib.Core.Path.{◌≡◌, refl}
use mathlib.Core.List.{List, [], ◌∷◌}
use native.Mathlib.Omega.{arith}
use Rattle.pair.specs.Rising.{Each}
use Rattle.card.specs.Layout.{block_size, place_count, start_of_old, length_of_old, length_of_new, old_places, due_place}
use Rattle.card.proofs.Frame.{SameAt, Alike, word_alike, boundary_alike, old_places_alike, live_alike}
use Rattle.update.specs.Step.{remains, spent, next_boundary, freed, grown, due_block, crowded}

pub spent_same : (c d : List ℕ) (k : ℕ) (is : List ℕ) → Each (SameAt c d) is → spent d k is ≡ spent c k is
unfolding spent
spent_same c d k [] s = refl
spent_same c d k (i ∷ is) s = rw (s.0.block, spent_same c d k is s.1)

module _ (c d : List ℕ) (a : Alike c d) where
  pub size_alike : block_size d ≡ block_size c
  size_alike = word_alike c d a 1 (omega arith)

  pub count_alike : place_count d ≡ place_count c
  count_alike = word_alike c d a 2 (omega arith)

  pub start_alike : start_of_old d ≡ start_of_old c
  start_alike = word_alike c d a 3 (omega arith)

  pub old_length_alike : length_of_old d ≡ length_of_old c
  old_length_alike = word_alike c d a 4 (omega arith)

  pub new_length_alike : length_of_new d ≡ length_of_new c
  new_length_alike = word_alike c d a 5 (omega arith)

  -- The same remains.
  pub remains_alike : (b : List ℕ) → remains d b ≡ remains c b
  unfolding remains
  remains_alike b = rw (boundary_alike c d a, live_alike c d a)

  -- The same place is due.
  pub due_place_alike : due_place d ≡ due_place c
  unfolding due_place
  due_place_alike = rw (start_alike, old_length_alike, new_length_alike, count_alike)

  pub due_block_alike : (r : List ℕ) → due_block d r ≡ due_block c r
  unfolding due_block
  due_block_alike r = rw size_alike

  pub next_boundary_alike : (r : List ℕ) → next_boundary d r ≡ next_boundary c r
  unfolding next_boundary
  next_boundary_alike r = rw size_alike

  pub freed_alike : (r : List ℕ) → freed d r ≡ freed c r
  unfolding freed
  freed_alike r = rw (old_places_alike c d a, size_alike, old_length_alike, next_boundary_alike r, spent_same c d (next_boundary c r) (old_places c) a.old)

  pub grown_alike : (r : List ℕ) → grown d r ≡ grown c r
  unfolding grown
  grown_alike r = rw new_length_alike

  pub crowded_alike : (r : List ℕ) → crowded d r ≡ crowded c r
  unfolding crowded
  crowded_alike r = rw (freed_alike r, grown_alike r, size_alike, count_alike, old_length_alike)
