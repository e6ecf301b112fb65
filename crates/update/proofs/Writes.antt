-- The first two writes: the due block and its map entry, and what a cut leaves in their stead.
use Prim.Native.Nat.{ℕ, suc, ◌≤◌, ◌<◌}
use mathlib.Core.Path.{◌≡◌, refl, sym, ◌∙◌, ap}
use mathlib.Core.Bool.{Bool, true, false, cond, not, false≢true}
use mathlib.Core.List.{List, [], ◌∷◌}
use native.Mathlib.Nat.{mul-le-mul_left}
use native.Mathlib.Omega.{arith}
use lib.ListN.{length, take, drop, get_or}
use lib.Seq.{sets}
use lib.Dec.{eqb, eqb-suc-zero}
use borrow.Author.Tests.{eqb-true, eq-eqb}
use Rattle.pair.specs.Rank.{Words, Proper}
use Rattle.pair.specs.Rising.{Each}
use Rattle.pair.specs.Tests.{same}
use Rattle.pair.proofs.Tests.{and_left, and_right}
use Rattle.pair.proofs.Each.{each_get_d}
use Rattle.pair.proofs.Order.{position_word}
use Rattle.block.proofs.Due.{length_due_block, words_due_block}
use Rattle.card.specs.Layout.{width_of, block_size, place_count, entry_width, entry_at, entry, place_at, place, due_place}
use Rattle.pair.proofs.Words.{words_sets, words_cons, words_nil}
use Rattle.card.proofs.Facts.{Facts}
use Rattle.card.proofs.Frame.{Alike}
use Rattle.card.proofs.Free.{due_free, alike_place, alike_entry}
use Rattle.card.proofs.Ordered.{shaped}
use Rattle.pair.proofs.Lists.{part_sets_after, part_sets_same, word_sets_before}
use Rattle.card.proofs.Parts.{place_inside, entry_inside}
use Rattle.update.specs.Step.{with_write, due_block, due_entry, next_write, the_write}
use Rattle.update.proofs.Grown.{DueWritten}

pub same_true : (xs ys : List ℕ) → same xs ys ≡ true → xs ≡ ys
unfolding same
same_true [] [] e = refl
same_true [] (y ∷ ys) e = absurd (false≢true e)
same_true (x ∷ xs) [] e = absurd (false≢true e)
same_true (x ∷ xs) (y ∷ ys) e =
    let h : x ≡ y = eqb-true x y (and_left (eqb x y) (same xs ys) e) in
    rw (h, same_true xs ys (and_right (eqb x y) (same xs ys) e))

pub same_refl : (xs : List ℕ) → same xs xs ≡ true
unfolding same
same_refl [] = refl
same_refl (x ∷ xs) = rw (eq-eqb x x refl, same_refl xs)

-- the card after each of the by_next_write writes
abbrev pub written : List ℕ → List ℕ → ℕ → List ℕ
written c r w = with_write c (the_write c r w)

-- The due block has the words of a place, and the map entry its words.
pub length_due_block_law : (c r : List ℕ) → length (due_block c r) ≡ block_size c
unfolding due_block
length_due_block_law c r = length_due_block (block_size c) r

pub length_due_entry : (c r : List ℕ) → length (due_entry r) ≡ entry_width c
unfolding due_entry width_of
length_due_entry c r = refl

-- The next write by what the due place and its map entry hold.
pub next_write_law : (c r : List ℕ) → next_write c r
    ≡ cond (eqb (length r) 0) 3 (cond (not (same (place c (due_place c)) (due_block c r))) 1 (cond (not (same (entry c (due_place c)) (due_entry r))) 2 3))
unfolding next_write place
next_write_law c r = rw (length_due_block_law c r, length_due_entry c r)

-- It is the first, the second or the third, each with what then holds of the due place.
pub by_next_write :
    (c r : List ℕ) (P : ℕ → Type 0) →
    (0 < length r → P 1) →
    (0 < length r → place c (due_place c) ≡ due_block c r → P 2) →
    ((0 < length r → DueWritten c r) → P 3) →
    P (next_write c r)
by_next_write c [] P first second third = rw (next_write_law c []) (third (λ h. absurd (omega arith)))
by_next_write c (x ∷ xs) P first second third =
    rw (next_write_law c r, eqb-suc-zero (length xs)) (go (same (place c (due_place c)) (due_block c r)) refl (same (entry c (due_place c)) (due_entry r)) refl)
  where
    r : List ℕ
    r = x ∷ xs

    go : (s : Bool) → same (place c (due_place c)) (due_block c r) ≡ s → (t : Bool) → same (entry c (due_place c)) (due_entry r) ≡ t
        → P (cond (not s) 1 (cond (not t) 2 3))
    go false d t e = first (omega arith)
    go true d false e = second (omega arith) (same_true _ _ d)
    go true d true e = third (λ h. record { block = same_true _ _ d; mapped = same_true _ _ e })

-- Any words in the due place leave the card alike.
pub alike_due_place : (c ws : List ℕ) → Facts c → length ws ≤ block_size c → Alike c (sets c (place_at c (due_place c)) ws)
alike_due_place c ws f h = alike_place c ws _ (due_free c f) h

-- Any words in its map entry do too.
pub alike_due_entry : (c ws : List ℕ) → Facts c → length ws ≤ entry_width c → Alike c (sets c (entry_at c (due_place c)) ws)
alike_due_entry c ws f h = alike_entry c ws _ (due_free c f) h

pub due_inside : (c : List ℕ) → Facts c → due_place c < place_count c
due_inside c f = (due_free c f).inside

module _ (c r : List ℕ) (f : Facts c) where
  -- The first write leaves the card alike,
  pub written_first_alike : Alike c (written c r 1)
  unfolding the_write
  written_first_alike = alike_due_place c (due_block c r) f (omega (arith, length_due_block_law c r))

  -- with the due block in its place.
  pub written_first_place : place (written c r 1) (due_place c) ≡ due_block c r
  unfolding the_write place
  written_first_place =
      let at = place_at c (due_place c) in
      let inside = place_inside c (due_place c) (shaped f) (due_inside c f) in
      rw (word_sets_before (due_block c r) c at 0 (omega arith), word_sets_before (due_block c r) c at 1 (omega arith), word_sets_before (due_block c r) c at 2 (omega arith))
      (ap (λ n. take n (drop at (sets c at (due_block c r)))) (sym (length_due_block_law c r)) ∙ part_sets_same (due_block c r) c at (rw (length_due_block_law c r) inside))

  -- The second write leaves the card alike,
  pub written_second_alike : Alike c (written c r 2)
  unfolding the_write
  written_second_alike = alike_due_entry c (due_entry r) f (omega (arith, length_due_entry c r))

  -- with the map entry in its place,
  pub written_second_entry : entry (written c r 2) (due_place c) ≡ due_entry r
  unfolding the_write
  written_second_entry =
      let at = entry_at c (due_place c) in
      rw (word_sets_before (due_entry r) c at 0 (omega arith))
      (ap (λ n. take n (drop at (sets c at (due_entry r)))) (sym (length_due_entry c r)) ∙ part_sets_same (due_entry r) c at (rw (length_due_entry c r) (entry_inside c (due_place c) (shaped f) (due_inside c f))))

  -- and the due place as it was.
  pub written_second_place : place (written c r 2) (due_place c) ≡ place c (due_place c)
  unfolding the_write place
  written_second_place =
      let at = entry_at c (due_place c) in
      rw (word_sets_before (due_entry r) c at 0 (omega arith), word_sets_before (due_entry r) c at 1 (omega arith), word_sets_before (due_entry r) c at 2 (omega arith))
      (ap (take (block_size c)) (part_sets_after (due_entry r) c (place_at c (due_place c)) at (omega (arith, length_due_entry c r, mul-le-mul_left {m = suc (due_place c)} (entry_width c) (due_inside c f)))))

  -- Both keep 32-bit words.
  pub written_first_words : Words c → Each Proper r → Words (written c r 1)
  unfolding the_write due_block
  written_first_words w p = words_sets (due_block c r) c (place_at c (due_place c)) w (words_due_block (block_size c) r f.size_high p)

  pub written_second_words : Words c → Each Proper r → 0 < length r → Words (written c r 2)
  unfolding the_write due_entry
  written_second_words w p h =
      words_sets (due_entry r) c (entry_at c (due_place c)) w
      (words_cons _ _ (each_get_d Proper r 0 0 h p).term_high (words_cons _ _ (position_word (get_or r 0 0)) words_nil))
