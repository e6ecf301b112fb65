-- Number 8 never comes of an empty batch, nor of removals while there is room for them.
use Prim.Native.Nat.{ℕ, ◌+◌, ◌-◌, ◌≤◌, ◌<◌}
use native.Mathlib.Omega.{arith}
use mathlib.Core.Path.{◌≡◌, refl}
use mathlib.Core.Bool.{Bool, true, false, cond, not}
use mathlib.Core.List.{List, [], ◌∷◌}
use lib.ListN.{length}
use lib.Dec.{eqb}
use borrow.Author.Tests.{lt-leb}
use Rattle.pair.specs.Rank.{Words}
use Rattle.pair.specs.Rising.{rising_from, last}
use Rattle.block.specs.Block.{due, goes_on}
use Rattle.block.proofs.Due.{goes_on_some}
use Rattle.card.specs.Layout.{block_size, place_count, start_of_old, length_of_old, length_of_new, boundary, old_places, pairs_at, live}
use Rattle.card.proofs.Circle.{length_around}
use Rattle.card.proofs.Facts.{Facts}
use Rattle.card.proofs.Live.{live_above}
use Rattle.batch.specs.Batch.{updates, any_update, batch_number}
use Rattle.batch.proofs.InOrder.{empty_in_order, applied_removals}
use Rattle.batch.proofs.Meaning.{removed}
use Rattle.update.specs.Step.{remains, spent, next_boundary, freed, grown, crowded}
use Rattle.update.proofs.Room.{Kept, Last, Room, keep_above, kept_none, at_most_one, whole_spent, room_next, room_last}

-- a batch in order that only removes
abbrev pub Removals : List ℕ → Type 0
Removals b = (batch_number b ≡ 0) × (any_update (λ u. eqb u.kind 1) (updates b) ≡ false)

-- what the batch leaves standing
abbrev pub stays : List ℕ → ℕ → Bool
stays b x = not (removed (updates b) x)

-- with removals only, what remains is what they leave of the old pairs above the boundary
pub remains_removals : (c b : List ℕ) → Facts c → Removals b → remains c b ≡ Kept (stays b) c (boundary c) (old_places c)
unfolding remains
remains_removals c b f o =
    rw (applied_removals b (live c) o.0 o.1, ← keep_above (stays b) (boundary c) (live c), live_above c f)

-- a write leaves a place free if it does so going on, and if it does so finishing
pub not_crowded : (c r : List ℕ) →
    (goes_on (block_size c) r ≡ true → length_of_old c - spent c (last 0 (due (block_size c) r)) (old_places c) + (length_of_new c + 1) < place_count c) →
    length_of_new c + cond (eqb (length r) 0) 0 1 < place_count c → crowded c r ≡ false
unfolding crowded freed grown next_boundary
not_crowded c r on ends = go (eqb (length r) 0) (goes_on (block_size c) r) refl refl
  where
    go : (e s : Bool) → eqb (length r) 0 ≡ e → goes_on (block_size c) r ≡ s → crowded c r ≡ false
    go true s p q = rw p
    go false true p q = rw (p, q) (lt-leb (place_count c) _ (on q))
    go false false p q = rw (p, q) (lt-leb (place_count c) _ (let h : length_of_new c + cond false 0 1 < place_count c = rw p at ends in omega arith))

length_old : (c : List ℕ) → length (old_places c) ≡ length_of_old c
length_old c = length_around (place_count c) (start_of_old c) (length_of_old c)

module _ (c b : List ℕ) (f : Facts c) (w : Words c) (o : Removals b) where
  low : 3 ≤ block_size c
  low = omega (arith, f.size_low)

  -- removals with room for them
  pub removals_not_crowded : Room (stays b) c (boundary c) (old_places c) (length_of_new c) (place_count c) → crowded c (remains c b) ≡ false
  removals_not_crowded h =
      let k : ℕ = boundary c in
      rw (remains_removals c b f o)
      (not_crowded c (Kept (stays b) c k (old_places c))
      (λ g. rw (length_old c) at (room_next (stays b) c k w low (old_places c) (length_of_new c) (place_count c) 0 f.old_rising (goes_on_some _ _ g) (rw (length_old c) f.room) h).0)
      (let two = room_last (stays b) c k (old_places c) (length_of_new c) (place_count c) (rw (length_old c) f.room) h in omega arith))

-- the empty batch leaves every pair
stays_all : (x : ℕ) → stays [] x ≡ true
unfolding removed updates any_update
stays_all x = refl

empty_removals : Removals []
unfolding updates any_update
empty_removals = (empty_in_order, refl)

-- with an empty batch the first old place is always freed
pub empty_not_crowded : (c : List ℕ) → Facts c → Words c → crowded c (remains c []) ≡ false
empty_not_crowded c f w =
    rw (remains_removals c [] f empty_removals)
    (not_crowded c (Kept g c k (old_places c))
    (λ s. on (old_places c) (length_old c) f.old_rising (goes_on_some _ _ s))
    (ends (old_places c) (length_old c)))
  where
    g : ℕ → Bool
    g = stays []

    k : ℕ
    k = boundary c

    room : length_of_old c + length_of_new c < place_count c
    room = f.room

    on : (is : List ℕ) → length is ≡ length_of_old c → rising_from 0 (pairs_at c is) ≡ true → 0 < length (Kept g c k is) →
        length_of_old c - spent c (Last g c k is) is + (length_of_new c + 1) < place_count c
    on [] e r s = absurd (let z : 0 < 0 = rw (kept_none g c k) at s in omega arith)
    on (i ∷ is) e r s = omega (arith, room, whole_spent g c k w (omega (arith, f.size_low)) i is 0 stays_all r s)

    ends : (is : List ℕ) → length is ≡ length_of_old c → length_of_new c + cond (eqb (length (Kept g c k is)) 0) 0 1 < place_count c
    ends [] e = rw (kept_none g c k) (omega (arith, room))
    ends (i ∷ is) e = omega (arith, room, at_most_one (eqb (length (Kept g c k (i ∷ is))) 0))
