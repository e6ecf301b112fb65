-- The new segment with the due block, once its place and its map entry hold it.
use Prim.Native.Nat.{ℕ, ◌+◌, ◌≤◌, ◌<◌}
use mathlib.Core.Path.{◌≡◌, refl, ◌∙◌, ap}
use mathlib.Core.Bool.{true}
use mathlib.Core.List.{List, [], ◌∷◌, ◌++◌, append-nil}
use native.Mathlib.Omega.{arith}
use lib.ListN.{length, get_or}
use lib.Seq.{get_or-take}
use lib.Dec.{eqb-suc-zero}
use borrow.Author.Tests.{eq-eqb}
use Rattle.pair.specs.Rank.{Proper}
use Rattle.pair.specs.Rising.{Each, rising_from}
use Rattle.pair.proofs.Order.{rank_term_position}
use Rattle.pair.proofs.Rising.{rising_join, rising_weaker}
use Rattle.block.specs.Block.{due, fitting}
use Rattle.block.proofs.Due.{fitting_some, rising_due, pairs_due_block, formed_due_block}
use Rattle.card.specs.Layout.{block_size, place_count, start_of_old, length_of_old, length_of_new, boundary, entry, first_pair, place, around, new_places, pairs_at, due_place}
use Rattle.card.specs.Sound.{blocks_sound}
use Rattle.card.proofs.Circle.{around_more}
use Rattle.card.proofs.Facts.{Facts}
use Rattle.card.proofs.Live.{pairs_at_append, blocks_sound_append}
use Rattle.card.proofs.Parts.{first_pair_entry}
use Rattle.update.specs.Step.{grown, due_block, due_entry}

-- what remains on a card: pairs, rising from the boundary
pub record Remaining (c r : List ℕ) : Type 0 where
  pub rising : rising_from (boundary c) r ≡ true
  pub proper : Each Proper r

-- the due place and its map entry hold the due block
pub record DueWritten (c r : List ℕ) : Type 0 where
  pub block : place c (due_place c) ≡ due_block c r
  pub mapped : entry c (due_place c) ≡ due_entry r

-- the new segment with the due block
pub record Grown (c r : List ℕ) : Type 0 where
  pub pairs : pairs_at c (around (place_count c) (start_of_old c + length_of_old c) (grown c r)) ≡ pairs_at c (new_places c) ++ due (block_size c) r
  pub sound : blocks_sound c (around (place_count c) (start_of_old c + length_of_old c) (grown c r)) ≡ true
  pub rising : rising_from 0 (pairs_at c (new_places c) ++ due (block_size c) r) ≡ true

pub due_first : (b : ℕ) (r : List ℕ) → 3 ≤ b → 0 < length r → get_or (due b r) 0 0 ≡ get_or r 0 0
unfolding due
due_first b r h s = get_or-take (fitting b 0 r) r 0 0 (fitting_some b r h s)

rises : (c r : List ℕ) → Facts c → Remaining c r → rising_from 0 (pairs_at c (new_places c) ++ due (block_size c) r) ≡ true
rises c r f m =
    rising_join (pairs_at c (new_places c)) (due (block_size c) r) 0 f.new_rising
    (rw f.last_new (rising_due (block_size c) (boundary c) r m.rising))

due_none : (b : ℕ) → due b [] ≡ []
unfolding due fitting
due_none b = refl

-- the block at the due place
due_pairs : (c r : List ℕ) → Remaining c r → DueWritten c r → pairs_at c (due_place c ∷ []) ≡ due (block_size c) r
unfolding pairs_at due_block
due_pairs c r m e = rw (e.block, append-nil) (pairs_due_block (block_size c) r m.proper)

due_sound : (c r : List ℕ) → Facts c → Remaining c r → DueWritten c r → 0 < length r → blocks_sound c (due_place c ∷ []) ≡ true
unfolding blocks_sound due_block due_entry
due_sound c r f m e h =
    let three : 3 ≤ block_size c = omega (arith, f.size_low) in
    let zero-rising : rising_from 0 r ≡ true = rising_weaker r 0 (boundary c) (omega arith) m.rising in
    let first : first_pair c (due_place c) ≡ get_or r 0 0 = first_pair_entry c (due_place c) ∙ rw e.mapped (rank_term_position (get_or r 0 0)) in
    rw (e.block, first, pairs_due_block (block_size c) r m.proper, formed_due_block (block_size c) r three h m.proper zero-rising, due_first (block_size c) r three h)
    (rw (eq-eqb (get_or r 0 0) (get_or r 0 0) refl))

-- With the third write due, the new places with the due place read as the new pairs and the due pairs, sound and rising.
pub growing : (c r : List ℕ) → Facts c → Remaining c r → (0 < length r → DueWritten c r) → Grown c r
unfolding grown due_place
growing c [] f m e =
    let z : length_of_new c + 0 ≡ length_of_new c = omega arith in
    record {
      pairs = rw (z, due_none (block_size c), append-nil);
      sound = rw z f.new_sound;
      rising = rises c [] f m;
    }
growing c (x ∷ xs) f m e =
    let h : 0 < length (x ∷ xs) = omega arith in
    let more = around_more (place_count c) (start_of_old c + length_of_old c) (length_of_new c) in
    record {
      pairs =
          rw (eqb-suc-zero (length xs), more, pairs_at_append c (new_places c) (due_place c ∷ []))
          (ap (λ l. pairs_at c (new_places c) ++ l) (due_pairs c (x ∷ xs) m (e h)));
      sound = rw (eqb-suc-zero (length xs), more, blocks_sound_append c (new_places c) (due_place c ∷ []), f.new_sound) (due_sound c (x ∷ xs) f m (e h) h);
      rising = rises c (x ∷ xs) f m;
    }
