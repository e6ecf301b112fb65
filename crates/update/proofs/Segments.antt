-- The configuration write, for any segments and any boundary.
use Prim.Native.Nat.{ℕ, zero, suc, ◌+◌, ◌%◌, ◌<◌}
use mathlib.Core.Path.{◌≡◌, refl, sym, ◌∙◌, ap}
use mathlib.Core.Bool.{true, cond, ◌&&◌}
use mathlib.Core.List.{List, ◌++◌}
use native.Mathlib.Nat.{mod-lt}
use native.Mathlib.Omega.{arith}
use lib.ListN.{length, take, get_or}
use lib.Seq.{sets, length-sets}
use lib.Dec.{ltb, eqb, eqb-suc-zero}
use borrow.Author.Tests.{lt-ltb}
use Rattle.pair.specs.Rank.{term, position, Words, Proper}
use Rattle.pair.specs.Rising.{Each, above, rising_from, last}
use Rattle.pair.proofs.Each.{each_all}
use Rattle.pair.proofs.Order.{rank_term_position, position_word}
use Rattle.card.specs.Layout.{word, format, block_size, place_count, start_of_old, length_of_old, length_of_new, boundary_term, boundary_position, boundary, entry_width, entry_at, place_at, place, around, old_places, new_places, pairs_at, live}
use Rattle.card.specs.Sound.{blocks_sound, first_reaches, boundary_agrees, judged}
use Rattle.pair.proofs.Words.{words_sets, words_cons, words_nil}
use Rattle.card.proofs.Circle.{around_mod, around_mod_add}
use Rattle.card.proofs.Facts.{Facts, sound}
use Rattle.card.proofs.Frame.{SameAt, pairs_at_alike, blocks_sound_alike, first_reaches_alike}
use Rattle.pair.proofs.Lists.{part_sets_after, word_sets_same}
use Rattle.update.specs.Step.{configured}

-- the segments that the write sets, and their boundary, fit the card
pub record Fit (c : List ℕ) (s o n k : ℕ) : Type 0 where
  pub room : o + n < place_count c
  pub bound : 0 < n → Proper k
  pub new_sound : blocks_sound c (around (place_count c) (s + o) n) ≡ true
  pub old_sound : blocks_sound c (around (place_count c) s o) ≡ true
  pub new_rising : rising_from 0 (pairs_at c (around (place_count c) (s + o) n)) ≡ true
  pub old_rising : rising_from 0 (pairs_at c (around (place_count c) s o)) ≡ true
  pub last_new : last 0 (pairs_at c (around (place_count c) (s + o) n)) ≡ k
  pub reaches : first_reaches c k (around (place_count c) s o) ≡ true

-- the card with other segments and another boundary
abbrev pub with_segments : List ℕ → ℕ → ℕ → ℕ → ℕ → List ℕ
with_segments c s o n k = sets c 0 (configured c s o n k)

bound_words_law :
    (n k : ℕ) → (n ≡ 0 → k ≡ 0) → (0 < n → Proper k) →
    cond (eqb n 0) (eqb (term k) 0 && eqb (position k) 0) (ltb 0 (term k) && ltb 0 (position k)) ≡ true
bound_words_law zero k z p = rw (z refl)
bound_words_law (suc n) k z p =
    let q = p (omega arith) in rw (eqb-suc-zero n, lt-ltb 0 (term k) q.term_low, lt-ltb 0 (position k) q.position_low)

module _ (c : List ℕ) (s o n k : ℕ) (f : Facts c) where
  abbrev d : List ℕ
  d = with_segments c s o n k

  -- its first words
  pub segments_word : (i : ℕ) → i < 8 → word d i ≡ get_or (configured c s o n k) i 0
  unfolding configured
  segments_word i h =
      let z : i ≡ 0 + i = omega arith in
      ap (λ j. get_or d j 0) z ∙ word_sets_same (configured c s o n k) c 0 i (omega (arith, f.long)) h

  pub segments_format : format d ≡ format c
  unfolding configured
  segments_format = segments_word 0 (omega arith)

  pub segments_size : block_size d ≡ block_size c
  unfolding configured
  segments_size = segments_word 1 (omega arith)

  pub segments_count : place_count d ≡ place_count c
  unfolding configured
  segments_count = segments_word 2 (omega arith)

  pub segments_start : start_of_old d ≡ s % place_count c
  unfolding configured
  segments_start = segments_word 3 (omega arith)

  pub segments_old : length_of_old d ≡ o
  unfolding configured
  segments_old = segments_word 4 (omega arith)

  pub segments_new : length_of_new d ≡ n
  unfolding configured
  segments_new = segments_word 5 (omega arith)

  pub segments_term : boundary_term d ≡ term k
  unfolding configured
  segments_term = segments_word 6 (omega arith)

  pub segments_position : boundary_position d ≡ position k
  unfolding configured
  segments_position = segments_word 7 (omega arith)

  pub segments_boundary : boundary d ≡ k
  segments_boundary = rw (segments_term, segments_position) (rank_term_position k)

  pub segments_old_places : old_places d ≡ around (place_count c) s o
  segments_old_places = rw (segments_count, segments_start, segments_old) (around_mod (place_count c) s o)

  pub segments_new_places : new_places d ≡ around (place_count c) (s + o) n
  segments_new_places = rw (segments_count, segments_start, segments_old, segments_new) (around_mod_add (place_count c) s o n)

  pub segments_length : length d ≡ length c
  segments_length = length-sets c 0 (configured c s o n k)

  -- every place and every map entry stands
  pub segments_same : (i : ℕ) → SameAt c d i
  unfolding place configured
  segments_same i =
      record {
        block = rw (segments_format, segments_size, segments_count) (ap (take (block_size c)) (part_sets_after (configured c s o n k) c (place_at c i) 0 (omega arith)));
        mapped = rw segments_format (ap (take (entry_width c)) (part_sets_after (configured c s o n k) c (entry_at c i) 0 (omega arith)));
      }

  sames : (is : List ℕ) → Each (SameAt c d) is
  sames is = each_all _ segments_same is

  at : (is : List ℕ) → pairs_at d is ≡ pairs_at c is
  at is = pairs_at_alike c d is (sames is)

  -- The live pairs after the write are those of the places it names.
  pub segments_live : live d ≡ pairs_at c (around (place_count c) (s + o) n) ++ above k (pairs_at c (around (place_count c) s o))
  unfolding live
  segments_live = rw (segments_new_places, segments_old_places, segments_boundary, at (around (place_count c) (s + o) n), at (around (place_count c) s o))

  -- A write that fits leaves a sound card.
  pub segments_sound_law : Fit c s o n k → judged d ≡ 0
  unfolding boundary_agrees around pairs_at last
  segments_sound_law g =
      let N = place_count c in
      sound d (record {
        known = segments_format ∙ f.known;
        size_low = rw segments_size f.size_low;
        size_high = rw segments_size f.size_high;
        count_low = rw segments_count f.count_low;
        count_high = rw segments_count f.count_high;
        long = rw (segments_length, segments_format, segments_size, segments_count) f.long;
        start = rw (segments_count, segments_start) (mod-lt s (omega (arith, f.count_low)));
        room = rw (segments_count, segments_old, segments_new) g.room;
        bound_words =
            rw (segments_new, segments_term, segments_position)
            (bound_words_law n k (λ e. sym g.last_new ∙ ap (λ m. last 0 (pairs_at c (around N (s + o) m))) e) g.bound);
        new_sound = rw segments_new_places (blocks_sound_alike c d (around N (s + o) n) (sames (around N (s + o) n)) ∙ g.new_sound);
        old_sound = rw segments_old_places (blocks_sound_alike c d (around N s o) (sames (around N s o)) ∙ g.old_sound);
        new_rising = rw (segments_new_places, at (around N (s + o) n)) g.new_rising;
        old_rising = rw (segments_old_places, at (around N s o)) g.old_rising;
        last_new = rw (segments_new_places, at (around N (s + o) n), segments_boundary) g.last_new;
        reaches = rw (segments_old_places, segments_boundary) (first_reaches_alike c d k (around N s o) (sames (around N s o)) ∙ g.reaches);
      })

  word_fits : Words c → (i : ℕ) → word c i < 4294967296
  unfolding Words
  word_fits w i = w i

  -- It keeps 32-bit words.
  pub segments_words : Words c → Fit c s o n k → term k < 4294967296 → Words d
  unfolding configured
  segments_words w g h =
      words_sets (configured c s o n k) c 0 w
      (words_cons _ _ (word_fits w 0) (words_cons _ _ (word_fits w 1) (words_cons _ _ (word_fits w 2)
      (words_cons _ _ (omega (arith, mod-lt s {m = place_count c} (omega (arith, f.count_low)), f.count_high)) (words_cons _ _ (omega (arith, g.room, f.count_high)) (words_cons _ _ (omega (arith, g.room, f.count_high))
      (words_cons _ _ h (words_cons _ _ (position_word k) words_nil))))))))
