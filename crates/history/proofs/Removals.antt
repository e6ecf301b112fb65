-- With a removals-only batch, kept throughout, number 8 never occurs if two places were free at its first step.
use Prim.Native.Nat.{ℕ}
use native.Mathlib.Omega.{arith}
use lib.ListN.{length}
use mathlib.Core.Path.{◌≡◌}
use mathlib.Core.Bool.{Bool, true, false, cond}
use mathlib.Core.List.{List, [], ◌∷◌}
use mathlib.Core.Logic.{inl}
use lib.Dec.{eqb}
use borrow.Author.Tests.{ne_eqb}
use Rattle.pair.specs.Rank.{Words}
use Rattle.card.specs.Layout.{place_count, length_of_old, format_number}
use Rattle.card.specs.Sound.{judged}
use Rattle.card.proofs.Circle.{length_around}
use Rattle.card.proofs.Facts.{Facts, facts}
use Rattle.card.proofs.Formatted.{formatted_refused}
use Rattle.batch.specs.Batch.{batch_number}
use Rattle.update.specs.Step.{with_write, remains, due_block, due_entry, next_write, the_write, step_number, taken, step}
use Rattle.update.proofs.Crowded.{Removals}
use Rattle.update.proofs.RoomKept.{RoomFor, room_for_alike, room_for_configuration, room_for_number, room_for_written}
use Rattle.update.proofs.Steps.{step_taken}
use Rattle.update.proofs.Writes.{written, length_due_block_law, length_due_entry, by_next_write, alike_due_place, alike_due_entry}
use Rattle.history.specs.History.{History, Event, stepped, cut, looked, restarted, formats, just, torn_write, torn, after, tells, told, AllOfWords}
use Rattle.history.specs.Claims.{Lends, Keeps, ran, free_places, RemovalsNeverFull}
use Rattle.history.proofs.Keeping.{Keeping, itself, keeping_itself}
use Rattle.history.proofs.Events.{length_just, keeping_after}

module _ (c b : List ℕ) (f : Facts c) (j : judged c ≡ 0) (w : Words c) (n : batch_number b ≡ 0) (o : Removals b) (h : RoomFor b c) where
  taking : step c b ≡ taken c (remains c b) (next_write c (remains c b))
  taking = step_taken c b (room_for_number b c j w n o h)

  -- a step keeps the room
  room_for_step : RoomFor b (step c b).card
  unfolding taken
  room_for_step = rw taking (room_for_written b c f w o h)

  -- so does a cut step
  room_for_torn : (ws : List ℕ) (l : Bool) → RoomFor b (torn c b ws l)
  unfolding torn taken the_write torn_write
  room_for_torn ws l =
      rw taking
      (by_next_write c r P
      (λ some. room_for_alike b c _ (alike_due_place c (just (length (due_block c r)) ws) f (omega (arith, length_due_block_law c r, length_just (length (due_block c r)) ws))) h)
      (λ some placed. room_for_alike b c _ (alike_due_entry c (just (length (due_entry r)) ws) f (omega (arith, length_due_entry c r, length_just (length (due_entry r)) ws))) h)
      (λ ready. lands l))
    where
      r : List ℕ
      r = remains c b

      P : ℕ → Type 0
      P x = RoomFor b (cond (eqb x 3) (cond l (written c r x) c) (with_write c (torn_write (the_write c r x) ws)))

      lands : (t : Bool) → RoomFor b (cond t (written c r 3) c)
      lands true = room_for_configuration b c f w o h
      lands false = h

-- every event that lends the batch keeps the room
room_for_after : (c b : List ℕ) (e : Event) → judged c ≡ 0 → Words c → batch_number b ≡ 0 → Removals b → Lends c b e → RoomFor b c → RoomFor b (after c e)
unfolding after Lends
room_for_after c b (stepped x) j w n o l h = rw l (room_for_step c b (facts c j) j w n o h)
room_for_after c b (cut x ws t) j w n o l h = rw l (room_for_torn c b (facts c j) j w n o h ws t)
room_for_after c b (looked t a z answer) j w n o l h = h
room_for_after c b restarted j w n o l h = h
room_for_after c b (formats x m) j w n o l h = rw (formatted_refused c x m (ne_eqb (format_number c x m) 0 l)) h

never : (c b : List ℕ) (k : History) (es : List Event) → Keeping c k → AllOfWords es → batch_number b ≡ 0 → Removals b → RoomFor b c → Keeps c b es →
    step_number (ran c es) b ≡ 0
unfolding ran AllOfWords Keeps
never c b k [] s w n o h l = room_for_number b c s.sound s.words n o h
never c b k (e ∷ es) s w n o h l =
    never (after c e) b (told (tells c e) k) es (keeping_after c e k s w.0) w.1 n o (room_for_after c b e s.sound s.words n o l.0 h) l.1

pub removals_never_full : RemovalsNeverFull
unfolding RemovalsNeverFull free_places
removals_never_full c b es wc wb we j n o two l =
    never c b (itself c) es (keeping_itself c wc j) we n (n, o) (inl (rw (length_around (place_count c) _ (length_of_old c)) (omega arith))) l
