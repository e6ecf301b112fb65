-- The live pairs of a sound card: rising, pairs all of them, and in two parts at the boundary.
use Prim.Native.Nat.{ℕ, ◌*◌, ◌≤◌, ◌<◌}
use mathlib.Core.Path.{◌≡◌, refl, sym}
use mathlib.Core.Bool.{true, ◌&&◌, and_assoc}
use mathlib.Core.List.{List, [], ◌∷◌, ◌++◌, append_assoc, append-nil}
use native.Mathlib.Omega.{arith}
use lib.ListN.{length, drop, get_or, length-append, length-take}
use lib.Dec.{eqb, ltb}
use borrow.Author.Tests.{lt-ltb}
use Rattle.pair.specs.Rank.{Words, Proper}
use Rattle.pair.specs.Rising.{Each, above, at_most, rising_from, last, any}
use Rattle.pair.proofs.Tests.{and_left, and_right}
use Rattle.pair.proofs.Each.{each_append, each_keep}
use Rattle.pair.proofs.Rising.{rising_head, rising_first, rising_join, rising_above}
use Rattle.pair.proofs.Parts.{above_append, at_most_append, at_most_all, above_none, above_above, at_most_above_none}
use Rattle.block.specs.Block.{block_size_most, pairs, formed}
use Rattle.block.proofs.Reading.{formed_proper, formed_some}
use Rattle.block.proofs.Size.{block_size_law, length_size}
use Rattle.card.specs.Layout.{block_size, boundary, place_at, first_pair, place, old_places, new_places, pairs_at, live}
use Rattle.card.specs.Sound.{blocks_sound, first_reaches}
use Rattle.pair.proofs.Words.{words_take, words_drop}
use Rattle.card.proofs.Facts.{Facts}

-- The pairs at places in two groups.
pub pairs_at_append : (c is js : List ℕ) → pairs_at c (is ++ js) ≡ pairs_at c is ++ pairs_at c js
unfolding pairs_at
pairs_at_append c [] js = refl
pairs_at_append c (i ∷ is) js = rw (pairs_at_append c is js, append_assoc)

-- The blocks at places in two groups are sound where those of each group are.
pub blocks_sound_append : (c is js : List ℕ) → blocks_sound c (is ++ js) ≡ (blocks_sound c is && blocks_sound c js)
unfolding blocks_sound
blocks_sound_append c [] js = refl
blocks_sound_append c (i ∷ is) js = rw (blocks_sound_append c is js) (sym (and_assoc (formed (place c i) && eqb (first_pair c i) (get_or (pairs (place c i)) 0 0)) (blocks_sound c is) (blocks_sound c js)))

pub place_words : (c : List ℕ) (i : ℕ) → Words c → Words (place c i)
unfolding place
place_words c i w = words_take (block_size c) (drop (place_at c i) c) (words_drop (place_at c i) c w)

ruleset tests = (and_left, and_right)

-- Sound blocks of 32-bit words hold pairs.
pub pairs_at_proper : (c is : List ℕ) → Words c → blocks_sound c is ≡ true → Each Proper (pairs_at c is)
unfolding pairs_at blocks_sound
pairs_at_proper c [] w s = tt
pairs_at_proper c (i ∷ is) w s =
    each_append Proper (pairs (place c i)) (pairs_at c is)
    (formed_proper (place c i) (place_words c i w) (search tests))
    (pairs_at_proper c is w (search tests))

-- Where the blocks at some places are sound and rising, the first has a pair.
pub reaches_zero : (c is : List ℕ) → blocks_sound c is ≡ true → rising_from 0 (pairs_at c is) ≡ true → first_reaches c 0 is ≡ true
unfolding blocks_sound first_reaches pairs_at any
reaches_zero c [] s h = refl
reaches_zero c (i ∷ is) s h = go (pairs (place c i)) (formed_some (place c i) (search tests)) (rising_first (pairs (place c i)) (pairs_at c is) 0 h)
  where
    go : (xs : List ℕ) → 0 < length xs → rising_from 0 xs ≡ true → any (ltb 0) xs ≡ true
    go [] l h = absurd (omega arith)
    go (x ∷ xs) l h = rw (lt-ltb 0 x (rising_head x xs 0 h))

module _ (c : List ℕ) (f : Facts c) where
  -- The live pairs rise.
  pub live_rising : rising_from 0 (live c) ≡ true
  unfolding live
  live_rising = rising_join (pairs_at c (new_places c)) _ 0 f.new_rising (rw f.last_new (rising_above (pairs_at c (old_places c)) 0 (boundary c) f.old_rising))

  -- Up to the boundary they are the new segment's.
  pub live_at_most : at_most (boundary c) (live c) ≡ pairs_at c (new_places c)
  unfolding live
  live_at_most =
      let h : last 0 (pairs_at c (new_places c)) ≤ boundary c = omega (arith, f.last_new) in
      rw (
        at_most_append,
        at_most_all (pairs_at c (new_places c)) (boundary c) 0 f.new_rising h,
        at_most_above_none (boundary c) (boundary c) (pairs_at c (old_places c)) (omega arith),
        append-nil,
      )

  -- Above it they are the old segment's.
  pub live_above : above (boundary c) (live c) ≡ above (boundary c) (pairs_at c (old_places c))
  unfolding live
  live_above =
      let h : last 0 (pairs_at c (new_places c)) ≤ boundary c = omega (arith, f.last_new) in
      rw (
        above_append,
        above_none (pairs_at c (new_places c)) (boundary c) 0 f.new_rising h,
        above_above (boundary c) (boundary c) (pairs_at c (old_places c)) (omega arith),
      )

  -- All of them are pairs.
  pub live_proper : Words c → Each Proper (live c)
  unfolding live above
  live_proper w =
      let old : Each Proper (pairs_at c (old_places c)) = pairs_at_proper c (old_places c) w f.old_sound in
      each_append Proper (pairs_at c (new_places c)) _ (pairs_at_proper c (new_places c) w f.new_sound)
      (each_keep Proper (ltb (boundary c)) (pairs_at c (old_places c)) old)

-- every block has at most so many pairs
pub length_pairs_at : (c is : List ℕ) → Words c → block_size c ≤ block_size_most → length (pairs_at c is) ≤ block_size_most * length is
unfolding pairs_at
length_pairs_at c [] w h = omega arith
length_pairs_at c (i ∷ is) w h =
    let one : length (pairs (place c i)) ≤ length (place c i) = omega (arith, length_size 0 (pairs (place c i)), block_size_law (place c i) (place_words c i w)) in
    let size : length (place c i) ≤ block_size c = unfold place in rw length-take (omega arith) in
    rw length-append (omega (arith, length_pairs_at c is w h))
