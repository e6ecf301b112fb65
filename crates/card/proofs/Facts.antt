-- What a sound card's words say, taken out of the judge's number and put back.
use Prim.Native.Nat.{ℕ, ◌+◌, ◌-◌, ◌≤◌, ◌<◌}
use mathlib.Core.Path.{◌≡◌}
use mathlib.Core.Bool.{true, false}
use mathlib.Core.List.{List}
use native.Mathlib.Omega.{arith}
use native.Mathlib.Nat.{mul-le-mul}
use lib.ListN.{length}
use lib.Dec.{ltb, eqb}
use borrow.Author.Tests.{ltb-true, ltb-false, leb-true, eqb-true, not-false, lt-ltb, le-ltb, le-leb, eq-eqb}
use Rattle.pair.specs.Rising.{rising_from, last}
use Rattle.pair.specs.Tests.{first_of}
use Rattle.pair.proofs.FirstOf.{passed}
use Rattle.pair.proofs.Tests.{and_left, and_right}
use Rattle.card.specs.Layout.{format, width_of, block_size, place_count, start_of_old, length_of_old, length_of_new, boundary, entry_width, card_length, in_limits, old_places, new_places, pairs_at}
use Rattle.card.specs.Sound.{blocks_sound, first_reaches, boundary_agrees, segments_sound, judged}

pub record Facts (c : List ℕ) : Type 0 where
  pub known : format c ≡ 1
  pub size_low : 8 ≤ block_size c
  pub size_high : block_size c ≤ 1024
  pub count_low : 2 ≤ place_count c
  pub count_high : place_count c ≤ 1024
  pub long : length c ≡ card_length (entry_width c) (block_size c) (place_count c)
  pub start : start_of_old c < place_count c
  pub room : length_of_old c + length_of_new c < place_count c
  pub bound_words : boundary_agrees c ≡ true
  pub new_sound : blocks_sound c (new_places c) ≡ true
  pub old_sound : blocks_sound c (old_places c) ≡ true
  pub new_rising : rising_from 0 (pairs_at c (new_places c)) ≡ true
  pub old_rising : rising_from 0 (pairs_at c (old_places c)) ≡ true
  pub last_new : last 0 (pairs_at c (new_places c)) ≡ boundary c
  pub reaches : first_reaches c (boundary c) (old_places c) ≡ true

ruleset tests = (and_left, and_right, not-false, leb-true, ltb-true, ltb-false, eqb-true)

-- A sound card has them all.
pub facts : (c : List ℕ) → judged c ≡ 0 → Facts c
unfolding judged segments_sound
facts c e =
    let p1 = passed _ _ _ e in
    let p2 = passed _ _ _ p1.1 in
    let p3 = passed _ _ _ p2.1 in
    let p4 = passed _ _ _ p3.1 in
    let p5 = passed _ _ _ p4.1 in
    let p6 = passed _ _ _ p5.1 in
    let p7 = passed _ _ _ p6.1 in
    let p8 = passed _ _ _ p7.1 in
    gather c (not-false _ p2.0) (not-false _ p3.0) (not-false _ p4.0) (not-false _ p5.0) p6.0 (not-false _ p7.0) (not-false _ p8.0)
  where
    gather : (c : List ℕ) → eqb (format c) 1 ≡ true → in_limits (block_size c) (place_count c) ≡ true
        → eqb (length c) (card_length (entry_width c) (block_size c) (place_count c)) ≡ true → ltb (start_of_old c) (place_count c) ≡ true
        → ltb (place_count c - 1) (length_of_old c + length_of_new c) ≡ false → boundary_agrees c ≡ true → segments_sound c ≡ true → Facts c
    gather c a l e s r w g =
        let low : 2 ≤ place_count c = search tests in
        record {
          known = eqb-true _ _ a;
          size_low = search tests;
          size_high = search tests;
          count_low = low;
          count_high = search tests;
          long = eqb-true _ _ e;
          start = ltb-true _ _ s;
          room = omega (arith, ltb-false (place_count c - 1) (length_of_old c + length_of_new c) r);
          bound_words = w;
          new_sound = search tests;
          old_sound = search tests;
          new_rising = search tests;
          old_rising = search tests;
          last_new = search tests;
          reaches = search tests;
        }

-- A card with all of them is sound.
pub sound : (c : List ℕ) → Facts c → judged c ≡ 0
unfolding judged first_of segments_sound
sound c f =
    let l : 8 ≤ length c = omega (arith, f.long) in
    simp (
      le-ltb (length c) 8 l,
      eq-eqb _ _ f.known,
      le-leb _ _ f.size_low,
      le-leb _ _ f.size_high,
      le-leb _ _ f.count_low,
      le-leb _ _ f.count_high,
      eq-eqb _ _ f.long,
      lt-ltb _ _ f.start,
      le-ltb (place_count c - 1) (length_of_old c + length_of_new c) (omega (arith, f.room)),
      f.bound_words,
      f.new_sound,
      f.old_sound,
      f.new_rising,
      f.old_rising,
      eq-eqb _ _ f.last_new,
      f.reaches,
    )

-- Within the limits a card has at most 1,050,632 words.
pub card_length_law : (c : List ℕ) → judged c ≡ 0 → length c ≤ 1050632
unfolding width_of
card_length_law c e =
    let f = facts c e in
    omega (arith, f.long, f.count_high, mul-le-mul f.count_high f.size_high)
