-- Free places: words written in one, or in its map entry, leave a card alike, and the place after the new segment is free.
use Prim.Native.Nat.{ℕ, suc, ◌+◌, ◌*◌, ◌≤◌, ◌<◌}
use mathlib.Core.Path.{◌≡◌, refl, ap}
use mathlib.Core.List.{List, [], ◌∷◌, ◌++◌}
use native.Mathlib.Nat.{mul-le-mul_left, mod-lt}
use native.Mathlib.Omega.{arith}
use lib.ListN.{length, take}
use lib.Seq.{sets, length-sets}
use Rattle.pair.specs.Rising.{Each}
use Rattle.pair.proofs.Each.{each_imply}
use Rattle.card.specs.Layout.{block_size, place_count, start_of_old, length_of_old, length_of_new, entry_width, entry_at, place_at, place, old_places, new_places, due_place}
use Rattle.card.proofs.Circle.{mod_apart, each_around, around_add, around_more, Distinct, around_distinct}
use Rattle.pair.proofs.Lists.{part_sets_before, part_sets_after, part_sets_row, word_sets_before}
use Rattle.card.proofs.Facts.{Facts}
use Rattle.card.proofs.Frame.{SameAt, Alike}

-- the place stands on the card and is none of these
abbrev pub Apart : List ℕ → ℕ → ℕ → Type 0
Apart c i j = (j < place_count c) × (j ≡ i → ⊥)

-- the place lies in neither segment
pub record Free (c : List ℕ) (i : ℕ) : Type 0 where
  pub inside : i < place_count c
  pub new : Each (Apart c i) (new_places c)
  pub old : Each (Apart c i) (old_places c)

-- One place is always free: the place after the new segment lies in neither segment.
pub due_free : (c : List ℕ) → Facts c → Free c (due_place c)
unfolding due_place
due_free c f =
    let n = place_count c in
    let s = start_of_old c in
    let room : length_of_old c + length_of_new c < n = f.room in
    let some : 0 < n = omega (arith, f.count_low) in
    record {
      inside = mod-lt _ some;
      new = each_around _ n (s + length_of_old c) (length_of_new c) (λ j l h. (mod-lt j some, mod_apart n j (s + length_of_old c + length_of_new c) h (omega arith)));
      old = each_around _ n s (length_of_old c) (λ j l h. (mod-lt j some, mod_apart n j (s + length_of_old c + length_of_new c) (omega arith) (omega arith)));
    }

-- The places of the old segment, those of the new segment and the place after it are all different.
pub places_distinct :
    (c : List ℕ) → Facts c → Distinct (old_places c ++ (new_places c ++ (due_place c ∷ [])))
unfolding due_place
places_distinct c f =
    let n = place_count c in
    rw (← around_more n (start_of_old c + length_of_old c) (length_of_new c), ← around_add n (start_of_old c) (length_of_old c) (length_of_new c + 1))
    (around_distinct n (start_of_old c) (length_of_old c + (length_of_new c + 1)) (omega (arith, f.room)))

-- A write behind the configuration words that leaves every other place as it is leaves the card alike.
alike_sets :
    (c ws : List ℕ) (i at : ℕ) → Free c i → 8 ≤ at → ((j : ℕ) → Apart c i j → SameAt c (sets c at ws) j) → Alike c (sets c at ws)
alike_sets c ws i at f h same =
    record {
      long = length-sets c at ws;
      head = part_sets_before ws c 8 0 at (omega arith);
      new = each_imply (Apart c i) _ same (new_places c) f.new;
      old = each_imply (Apart c i) _ same (old_places c) f.old;
    }

-- Words written in a free place leave the card alike.
pub alike_place : (c ws : List ℕ) (i : ℕ) → Free c i → length ws ≤ block_size c → Alike c (sets c (place_at c i) ws)
unfolding place
alike_place c ws i f h =
    let at = place_at c i in
    alike_sets c ws i at f (omega arith) (λ j a.
    record {
      block =
          rw (word_sets_before ws c at 0 (omega arith), word_sets_before ws c at 1 (omega arith), word_sets_before ws c at 2 (omega arith))
          (part_sets_row ws c (block_size c) (8 + entry_width c * place_count c) j i _ _ a.1 h refl refl);
      mapped =
          rw (word_sets_before ws c at 0 (omega arith))
          (part_sets_before ws c (entry_width c) (entry_at c j) at (omega (arith, mul-le-mul_left {m = suc j} (entry_width c) a.0)));
    })

-- Words written in its map entry do too.
pub alike_entry : (c ws : List ℕ) (i : ℕ) → Free c i → length ws ≤ entry_width c → Alike c (sets c (entry_at c i) ws)
unfolding place
alike_entry c ws i f h =
    let at = entry_at c i in
    alike_sets c ws i at f (omega arith) (λ j a.
    record {
      block =
          rw (word_sets_before ws c at 0 (omega arith), word_sets_before ws c at 1 (omega arith), word_sets_before ws c at 2 (omega arith))
          (ap (take (block_size c)) (part_sets_after ws c (place_at c j) at (omega (arith, h, mul-le-mul_left {m = suc i} (entry_width c) f.inside))));
      mapped =
          rw (word_sets_before ws c at 0 (omega arith))
          (part_sets_row ws c (entry_width c) 8 j i (entry_at c j) at a.1 h (omega arith) (omega arith));
    })
