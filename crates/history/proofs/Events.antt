-- Every event keeps the card to its history.
use Prim.Native.Nat.{ℕ, ◌≤◌, ◌<◌}
use mathlib.Core.Path.{◌≡◌, refl}
use mathlib.Core.Bool.{Bool, true, false, cond, ◌&&◌}
use mathlib.Core.List.{List, ◌++◌}
use native.Mathlib.Omega.{arith}
use lib.ListN.{length, replicate, length-take}
use lib.Dec.{eqb}
use borrow.Author.Tests.{eqb-true}
use Rattle.pair.specs.Rank.{Words}
use Rattle.card.specs.Layout.{entry_at, place_at, format_number, formatted, due_place}
use Rattle.pair.proofs.Words.{words_take, words_append, words_zeros, words_sets}
use Rattle.card.proofs.Facts.{Facts, facts}
use Rattle.card.proofs.Formatted.{formatted_refused}
use Rattle.update.specs.Step.{with_write, remains, due_block, due_entry, next_write, the_write, step_number, taken, refused, step}
use Rattle.update.proofs.Grown.{Remaining, DueWritten}
use Rattle.update.proofs.Next.{remaining}
use Rattle.update.proofs.Steps.{Accepted, accepted, step_taken, step_refused}
use Rattle.update.proofs.Writes.{written, length_due_block_law, length_due_entry, by_next_write, alike_due_place, alike_due_entry, written_first_alike, written_second_alike, written_first_words, written_second_words}
use Rattle.history.specs.History.{History, started, landed, Event, stepped, cut, looked, restarted, formats, just, torn_write, torn, after, Report, nothing, tells, told, OfWords}
use Rattle.history.proofs.Keeping.{Keeping, keeping_alike, keeping_formatted, keeping_landed}

pub length_just : (n : ℕ) (ws : List ℕ) → length (just n ws) ≤ n
unfolding just
length_just n ws = omega (arith, length-take n (ws ++ replicate n 0))

pub words_just : (n : ℕ) (ws : List ℕ) → Words ws → Words (just n ws)
unfolding just
words_just n ws w = words_take n (ws ++ replicate n 0) (words_append ws (replicate n 0) w (words_zeros n))

module _ (c b : List ℕ) (h : History) (k : Keeping c h) (wb : Words b) (z : step_number c b ≡ 0) where
  abbrev r : List ℕ
  r = remains c b

  a : Accepted c b
  a = accepted c b z

  f : Facts c
  f = facts c k.sound

  m : Remaining c r
  m = remaining c b f k.words wb a.in_order

  -- The write of a step that is not refused.
  keeping_written : Keeping (written c r (next_write c r)) (cond (eqb (next_write c r) 3) (landed b h) h)
  keeping_written =
      by_next_write c r (λ w. Keeping (written c r w) (cond (eqb w 3) (landed b h) h))
      (λ some. keeping_alike c (written c r 1) h k (written_first_alike c r f) (written_first_words c r f k.words m.proper))
      (λ some placed. keeping_alike c (written c r 2) h k (written_second_alike c r f) (written_second_words c r f k.words m.proper some))
      (λ ready. keeping_landed c b h k m ready a.free)

  -- The same write, cut.
  keeping_cut :
      (ws : List ℕ) (l : Bool) → Words ws →
      Keeping (cond (eqb (next_write c r) 3) (cond l (written c r (next_write c r)) c) (with_write c (torn_write (the_write c r (next_write c r)) ws)))
      (cond (eqb (next_write c r) 3 && l) (landed b h) h)
  unfolding the_write torn_write
  keeping_cut ws l wd =
      by_next_write c r (λ w. Keeping (cond (eqb w 3) (cond l (written c r w) c) (with_write c (torn_write (the_write c r w) ws))) (cond (eqb w 3 && l) (landed b h) h))
      (λ some. keeping_alike c _ h k (alike_due_place c (torn_words (due_block c r)) f (omega (arith, length_due_block_law c r, length_just (length (due_block c r)) ws)))
      (words_sets (torn_words (due_block c r)) c (place_at c (due_place c)) k.words (words_just (length (due_block c r)) ws wd)))
      (λ some placed. keeping_alike c _ h k (alike_due_entry c (torn_words (due_entry r)) f (omega (arith, length_due_entry c r, length_just (length (due_entry r)) ws)))
      (words_sets (torn_words (due_entry r)) c (entry_at c (due_place c)) k.words (words_just (length (due_entry r)) ws wd)))
      (λ ready. go l ready)
    where
      torn_words : List ℕ → List ℕ
      torn_words es = just (length es) ws

      go : (t : Bool) → (0 < length r → DueWritten c r) → Keeping (cond t (written c r 3) c) (cond t (landed b h) h)
      go true ready = keeping_landed c b h k m ready a.free
      go false ready = k

-- A step, refused or not.
pub keeping_stepped : (c b : List ℕ) (h : History) → Keeping c h → Words b → Keeping (step c b).card (cond (eqb (step c b).write 3) (landed b h) h)
unfolding taken refused
keeping_stepped c b h k wb = go (eqb (step_number c b) 0) refl
  where
    go : (t : Bool) → eqb (step_number c b) 0 ≡ t → Keeping (step c b).card (cond (eqb (step c b).write 3) (landed b h) h)
    go true e = let z = eqb-true (step_number c b) 0 e in rw (step_taken c b z) (keeping_written c b h k wb z)
    go false e = rw (step_refused c b e) k

-- A cut step, refused or not.
pub keeping_torn :
    (c b ws : List ℕ) (l : Bool) (h : History) → Keeping c h → Words b → Words ws → Keeping (torn c b ws l) (cond (eqb (step c b).write 3 && l) (landed b h) h)
unfolding taken refused torn torn_write just
keeping_torn c b ws l h k wb wd = go (eqb (step_number c b) 0) refl
  where
    go : (t : Bool) → eqb (step_number c b) 0 ≡ t → Keeping (torn c b ws l) (cond (eqb (step c b).write 3 && l) (landed b h) h)
    go true e = let z = eqb-true (step_number c b) 0 e in rw (step_taken c b z) (keeping_cut c b h k wb z ws l wd)
    go false e = rw (step_refused c b e) k

-- A call of the formatter, refused or not.
pub keeping_formats :
    (c : List ℕ) (b n : ℕ) (h : History) → Keeping c h → b < 4294967296 → n < 4294967296 →
    Keeping (formatted c b n) (cond (eqb (format_number c b n) 0) (started b) h)
keeping_formats c b n h k hb hn = go (eqb (format_number c b n) 0) refl
  where
    go : (t : Bool) → eqb (format_number c b n) 0 ≡ t → Keeping (formatted c b n) (cond (eqb (format_number c b n) 0) (started b) h)
    go true e = rw e (keeping_formatted c b n (eqb-true (format_number c b n) 0 e) k.words hb hn)
    go false e = rw (e, formatted_refused c b n e) k

-- A history that is told something where a test holds, and else nothing.
pub told_where : (t : Bool) (r : Report) (h : History) → told (cond t r nothing) h ≡ cond t (told r h) h
unfolding told
told_where true r h = refl
told_where false r h = refl

-- Any event.
pub keeping_after : (c : List ℕ) (e : Event) (h : History) → Keeping c h → OfWords e → Keeping (after c e) (told (tells c e) h)
unfolding after tells told OfWords
keeping_after c (stepped b) h k w = rw told_where (keeping_stepped c b h k w)
keeping_after c (cut b ws l) h k w = rw told_where (keeping_torn c b ws l h k w.0 w.1)
keeping_after c (looked t a z answer) h k w = k
keeping_after c restarted h k w = k
keeping_after c (formats b n) h k w = rw told_where (keeping_formats c b n h k w.0 w.1)
