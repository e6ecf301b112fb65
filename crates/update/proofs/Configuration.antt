-- The configuration write of a step where it goes on and where it finishes: the segments fit, and the live pairs have the due pairs in their place.
use Prim.Native.Nat.{ℕ, ◌+◌, ◌-◌, ◌≤◌, ◌<◌}
use mathlib.Core.Path.{◌≡◌, refl, sym, ◌∙◌, ap}
use mathlib.Core.Bool.{Bool, true, false, cond, ◌&&◌, not}
use mathlib.Core.List.{List, [], ◌∷◌, ◌++◌, append_assoc}
use native.Mathlib.Omega.{arith}
use lib.ListN.{length, take, drop, take-append-drop}
use lib.Dec.{leb, eqb}
use borrow.Author.Tests.{leb-false, eqb-false, ne_eqb}
use Rattle.pair.specs.Rank.{Proper}
use Rattle.pair.specs.Rising.{Each, above, at_most, rising_from, last}
use Rattle.pair.proofs.Tests.{and_right}
use Rattle.pair.proofs.Each.{each_last_cons}
use Rattle.pair.proofs.Rising.{last_some, rising_second, rising_weaker, last_append}
use Rattle.pair.proofs.Parts.{above_all, above_further}
use Rattle.block.specs.Block.{due, goes_on}
use Rattle.block.proofs.Due.{goes_on_some, due_high, due_some, due_whole, proper_due}
use Rattle.card.specs.Layout.{block_size, place_count, start_of_old, length_of_old, boundary, around, old_places, new_places, pairs_at, live}
use Rattle.card.specs.Sound.{blocks_sound}
use Rattle.card.proofs.Circle.{around_drop, length_around}
use Rattle.card.proofs.Facts.{Facts}
use Rattle.card.proofs.Live.{reaches_zero, pairs_at_append, blocks_sound_append, live_at_most, live_above}
use Rattle.update.specs.Step.{spent, next_boundary, freed, grown, configuration, the_write, crowded}
use Rattle.update.proofs.Writes.{written}
use Rattle.update.proofs.Segments.{with_segments, Fit, segments_live}
use Rattle.update.proofs.Grown.{Remaining, DueWritten, Grown, growing}
use Rattle.update.proofs.Spent.{spent_length, spent_reaches, above_spent}

proper_last : (xs : List ℕ) (d : ℕ) → 0 < length xs → Each Proper xs → Proper (last d xs)
proper_last [] d h p = absurd (omega arith)
proper_last (x ∷ xs) d h p = each_last_cons Proper x xs d p

-- Where no number 8 stands, the segments that the write sets leave a place free.
pub uncrowded :
    (c r : List ℕ) → 0 < length r → crowded c r ≡ false →
    cond (goes_on (block_size c) r) (length_of_old c - freed c r) 0 + grown c r < place_count c
unfolding crowded
uncrowded c r h e =
    let e' : (not (eqb (length r) 0) && leb (place_count c) (cond (goes_on (block_size c) r) (length_of_old c - freed c r) 0 + grown c r)) ≡ false = e in
    leb-false (place_count c) (cond (goes_on (block_size c) r) (length_of_old c - freed c r) 0 + grown c r) (rw (ne_eqb (length r) 0 (λ q. omega arith)) at e')

module _ (c r : List ℕ) (f : Facts c) (m : Remaining c r) (ready : 0 < length r → DueWritten c r) where
  grows : Grown c r
  grows = growing c r f m ready

  module _ (on : goes_on (block_size c) r ≡ true) where
    abbrev mark : ℕ
    mark = last 0 (due (block_size c) r)

    abbrev gone : ℕ
    gone = spent c mark (old_places c)

    pub some : 0 < length (due (block_size c) r)
    some = due_some (block_size c) r (omega (arith, f.size_low)) (goes_on_some (block_size c) r on)

    pub next_boundary_on : next_boundary c r ≡ mark
    unfolding next_boundary
    next_boundary_on = rw on

    pub freed_on : freed c r ≡ gone
    unfolding freed
    freed_on = rw (on, next_boundary_on)

    pub gone_length : gone ≤ length_of_old c
    gone_length = rw length_around at (spent_length c mark (old_places c))

    left : around (place_count c) (start_of_old c + gone) (length_of_old c - gone) ≡ drop gone (old_places c)
    left = sym (around_drop (place_count c) (start_of_old c) gone (length_of_old c) gone_length)

    new : start_of_old c + gone + (length_of_old c - gone) ≡ start_of_old c + length_of_old c
    new = omega (arith, gone_length)

    -- the new boundary is a pair
    pub mark_proper : Proper mark
    mark_proper = proper_last (due (block_size c) r) 0 some (proper_due (block_size c) r m.proper)

    -- and stands above the old one
    pub mark_above : boundary c ≤ mark
    mark_above = due_high (block_size c) (boundary c) r (omega (arith, f.size_low)) (goes_on_some (block_size c) r on) m.rising

    parted : pairs_at c (old_places c) ≡ pairs_at c (take gone (old_places c)) ++ pairs_at c (drop gone (old_places c))
    parted = ap (pairs_at c) (sym (take-append-drop gone (old_places c))) ∙ pairs_at_append c (take gone (old_places c)) (drop gone (old_places c))

    -- the segments fit
    pub fit_on : crowded c r ≡ false → Fit c (start_of_old c + gone) (length_of_old c - gone) (grown c r) mark
    fit_on free =
        let room = uncrowded c r (goes_on_some (block_size c) r on) free in
        record {
          room = rw (on, freed_on) at room;
          bound = λ h. mark_proper;
          new_sound = rw new grows.sound;
          old_sound = rw left (and_right (blocks_sound c (take gone (old_places c))) (blocks_sound c (drop gone (old_places c)))
              (sym (blocks_sound_append c (take gone (old_places c)) (drop gone (old_places c))) ∙ ap (blocks_sound c) (take-append-drop gone (old_places c)) ∙ f.old_sound));
          new_rising = rw (new, grows.pairs) grows.rising;
          old_rising = rw left (rising_weaker _ 0 _ (omega arith) (rising_second (pairs_at c (take gone (old_places c))) (pairs_at c (drop gone (old_places c))) 0 (rw parted at f.old_rising)));
          last_new = rw (new, grows.pairs, last_append (pairs_at c (new_places c)) (due (block_size c) r) 0) (last_some (due (block_size c) r) _ 0 some);
          reaches = rw left (spent_reaches c mark (old_places c));
        }

    pub configuration_on : written c r 3 ≡ with_segments c (start_of_old c + gone) (length_of_old c - gone) (grown c r) mark
    unfolding the_write configuration
    configuration_on = rw (on, freed_on, next_boundary_on)

    -- Where it goes on, the due pairs stand between the pairs up to the old boundary and those above the new one.
    pub live_on : live (written c r 3) ≡ at_most (boundary c) (live c) ++ (due (block_size c) r ++ above mark (live c))
    live_on =
        rw (
          configuration_on,
          segments_live c (start_of_old c + gone) (length_of_old c - gone) (grown c r) mark f,
          new,
          left,
          grows.pairs,
          above_spent c mark (old_places c),
          live_at_most c f,
          ← above_further (boundary c) mark (pairs_at c (old_places c)) mark_above,
          ← live_above c f,
          above_further (boundary c) mark (live c) mark_above,
        )
        (append_assoc (pairs_at c (new_places c)) (due (block_size c) r) (above mark (live c)))

  module _ (end : goes_on (block_size c) r ≡ false) where
    all : pairs_at c (new_places c) ++ due (block_size c) r ≡ pairs_at c (new_places c) ++ r
    all = ap (λ l. pairs_at c (new_places c) ++ l) (due_whole (block_size c) r end)

    pub next_boundary_end : next_boundary c r ≡ 0
    unfolding next_boundary
    next_boundary_end = rw end

    room_end : crowded c r ≡ false → grown c r < place_count c
    unfolding grown
    room_end free = go (eqb (length r) 0) refl
      where
        go : (t : Bool) → eqb (length r) 0 ≡ t → grown c r < place_count c
        go true e = rw e (omega (arith, f.room))
        go false e =
            let h : 0 < length r = omega (arith, eqb-false (length r) 0 e) in
            omega (arith, rw end at (uncrowded c r h free))

    pub fit_end : crowded c r ≡ false → Fit c (start_of_old c + length_of_old c) (grown c r) 0 0
    unfolding around blocks_sound pairs_at rising_from last
    fit_end free =
        record {
          room = omega (arith, room_end free);
          bound = λ h. absurd (omega arith);
          new_sound = refl;
          old_sound = grows.sound;
          new_rising = refl;
          old_rising = rw grows.pairs grows.rising;
          last_new = refl;
          reaches = reaches_zero c _ grows.sound (rw grows.pairs grows.rising);
        }

    pub configuration_end : written c r 3 ≡ with_segments c (start_of_old c + length_of_old c) (grown c r) 0 0
    unfolding the_write configuration
    configuration_end = rw end

    -- Where it finishes, what remains stands after the pairs up to the boundary.
    pub live_end : live (written c r 3) ≡ at_most (boundary c) (live c) ++ r
    unfolding around pairs_at
    live_end =
        rw (
          configuration_end,
          segments_live c (start_of_old c + length_of_old c) (grown c r) 0 0 f,
          grows.pairs,
          above_all (pairs_at c (new_places c) ++ due (block_size c) r) 0 0 (omega arith) grows.rising,
          live_at_most c f,
        )
        all
