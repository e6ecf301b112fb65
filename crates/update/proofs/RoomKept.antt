-- Removals keep their room: the first two writes leave it, and the configuration write does.
use Prim.Native.Nat.{ℕ, ◌+◌, ◌-◌, ◌≤◌, ◌<◌}
use native.Mathlib.Omega.{arith}
use mathlib.Core.Path.{◌≡◌, refl}
use mathlib.Core.Bool.{Bool, true, false}
use mathlib.Core.List.{List, [], ◌∷◌}
use mathlib.Core.Logic.{inl, inr}
use lib.ListN.{length}
use borrow.Author.Tests.{ne_eqb}
use Rattle.pair.specs.Rank.{Words}
use Rattle.pair.specs.Rising.{Each, last}
use Rattle.pair.proofs.Each.{each_all}
use Rattle.block.specs.Block.{due, goes_on}
use Rattle.block.proofs.Due.{goes_on_some}
use Rattle.card.specs.Layout.{block_size, place_count, start_of_old, length_of_old, length_of_new, boundary, around, old_places}
use Rattle.card.proofs.Circle.{length_around, around_drop}
use Rattle.card.specs.Sound.{judged}
use Rattle.card.proofs.Facts.{Facts, facts}
use Rattle.card.proofs.Frame.{SameAt, Alike, boundary_alike, old_places_alike, word_alike}
use Rattle.batch.specs.Batch.{batch_number}
use Rattle.update.specs.Step.{remains, spent, grown, freed, next_boundary, configuration, next_write, the_write, step_number}
use Rattle.update.proofs.Segments.{with_segments, segments_boundary, segments_old_places, segments_new, segments_count, segments_same}
use Rattle.update.proofs.Crowded.{Removals, stays, remains_removals, removals_not_crowded}
use Rattle.update.proofs.Room.{Kept, Last, Room, room_next, room_last}
use Rattle.update.proofs.Spent.{spent_length}
use Rattle.update.proofs.Steps.{accepting}
use Rattle.update.proofs.Writes.{written, by_next_write, written_first_alike, written_second_alike}

-- the card has room for what the batch leaves: two places are free, or one, and nothing is left of the first old block
abbrev pub RoomFor : List ℕ → List ℕ → Type 0
RoomFor b c = Room (stays b) c (boundary c) (old_places c) (length_of_new c) (place_count c)

-- the room at places is the same where their blocks are
pub room_same : (g : ℕ → Bool) (c d : List ℕ) (k : ℕ) (is : List ℕ) (n m : ℕ) → Each (SameAt c d) is → Room g c k is n m → Room g d k is n m
room_same g c d k is n m s (inl two) = inl two
room_same g c d k [] n m s (inr done) = inr done
room_same g c d k (i ∷ is) n m s (inr done) = inr (rw s.0.block done)

-- words in free places leave it
pub room_for_alike : (b c d : List ℕ) → Alike c d → RoomFor b c → RoomFor b d
room_for_alike b c d a h =
    rw (boundary_alike c d a, old_places_alike c d a, word_alike c d a 5 (omega arith), word_alike c d a 2 (omega arith))
    (room_same (stays b) c d (boundary c) (old_places c) (length_of_new c) (place_count c) a.old h)

-- a configuration write leaves it where the segments that it sets have it
pub room_for_configured : (b c : List ℕ) (s o n k : ℕ) → Facts c → Room (stays b) c k (around (place_count c) s o) n (place_count c) →
    RoomFor b (with_segments c s o n k)
room_for_configured b c s o n k f h =
    rw (segments_boundary c s o n k f, segments_old_places c s o n k f, segments_new c s o n k f, segments_count c s o n k f)
    (room_same (stays b) c (with_segments c s o n k) k (around (place_count c) s o) n (place_count c) (each_all _ (segments_same c s o n k f) (around (place_count c) s o)) h)

-- the configuration write in words that speak of the card before it
configuration_goes_on : (c r : List ℕ) → goes_on (block_size c) r ≡ true →
    let k = last 0 (due (block_size c) r) in
    let gone = spent c k (old_places c) in
    written c r 3 ≡ with_segments c (start_of_old c + gone) (length_of_old c - gone) (length_of_new c + 1) k
unfolding the_write configuration freed grown next_boundary
configuration_goes_on c r on =
    let some : 0 < length r = goes_on_some (block_size c) r on in
    rw (on, ne_eqb (length r) 0 (omega arith))

configuration_ends : (c r : List ℕ) → goes_on (block_size c) r ≡ false →
    written c r 3 ≡ with_segments c (start_of_old c + length_of_old c) (grown c r) 0 0
unfolding the_write configuration
configuration_ends c r ends = rw ends

-- and the write of a step of removals does
pub room_for_configuration : (b c : List ℕ) → Facts c → Words c → Removals b → RoomFor b c → RoomFor b (written c (remains c b) 3)
unfolding grown
room_for_configuration b c f w o h =
    rw (remains_removals c b f o) (go (goes_on (block_size c) (Kept (stays b) c (boundary c) (old_places c))) refl)
  where
    g : ℕ → Bool
    g = stays b

    k : ℕ
    k = boundary c

    is : List ℕ
    is = old_places c

    length_is : length is ≡ length_of_old c
    length_is = length_around (place_count c) _ (length_of_old c)

    room : length is + length_of_new c < place_count c
    room = rw length_is f.room

    gone : ℕ
    gone = spent c (Last g c k is) is

    few : gone ≤ length_of_old c
    few = rw length_is at (spent_length c (Last g c k is) is)

    go : (t : Bool) → goes_on (block_size c) (Kept g c k is) ≡ t → RoomFor b (written c (Kept g c k is) 3)
    go true on =
        rw (configuration_goes_on c (Kept g c k is) on)
        (room_for_configured b c (start_of_old c + gone) (length_of_old c - gone) (length_of_new c + 1) (Last g c k is) f
        (rw (← around_drop (place_count c) (start_of_old c) gone (length_of_old c) few)
        (room_next g c k w (omega (arith, f.size_low)) is (length_of_new c) (place_count c) 0 f.old_rising (goes_on_some _ _ on) room h).1))
    go false ends =
        rw (configuration_ends c (Kept g c k is) ends)
        (room_for_configured b c (start_of_old c + length_of_old c) (grown c (Kept g c k is)) 0 0 f
        (inl (rw (length_around (place_count c) (start_of_old c + length_of_old c) (grown c (Kept g c k is)))
        (omega (arith, room_last g c k is (length_of_new c) (place_count c) room h)))))

-- with room for them removals are never refused
pub room_for_number : (b c : List ℕ) → judged c ≡ 0 → Words c → batch_number b ≡ 0 → Removals b → RoomFor b c → step_number c b ≡ 0
room_for_number b c j w n o h =
    accepting c b (record { sound = j; in_order = n; free = removals_not_crowded c b (facts c j) w o h })

-- and a step of removals keeps the room, whichever write it makes
pub room_for_written : (b c : List ℕ) → Facts c → Words c → Removals b → RoomFor b c → RoomFor b (written c (remains c b) (next_write c (remains c b)))
unfolding the_write
room_for_written b c f w o h =
    let r : List ℕ = remains c b in
    by_next_write c r (λ x. RoomFor b (written c r x))
    (λ some. room_for_alike b c (written c r 1) (written_first_alike c r f) h)
    (λ some placed. room_for_alike b c (written c r 2) (written_second_alike c r f) h)
    (λ ready. room_for_configuration b c f w o h)
