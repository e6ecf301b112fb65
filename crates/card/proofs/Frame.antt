-- The frame: words in free places and their map entries change neither the judge's number nor the live pairs nor the boundary.
use Prim.Native.Nat.{ℕ, ◌<◌}
use mathlib.Core.Path.{◌≡◌, refl, sym, ◌∙◌}
use mathlib.Core.List.{List, [], ◌∷◌}
use native.Mathlib.Omega.{arith}
use lib.ListN.{length, take}
use lib.Seq.{get_or-take}
use Rattle.pair.specs.Rising.{Each}
use Rattle.card.specs.Layout.{word, boundary, entry, first_pair, place, old_places, new_places, pairs_at, live}
use Rattle.card.specs.Sound.{blocks_sound, first_reaches, boundary_agrees, segments_sound, judged}
use Rattle.card.proofs.Parts.{first_pair_entry}

-- the place and its map entry hold the same words on both cards
pub record SameAt (c d : List ℕ) (i : ℕ) : Type 0 where
  pub block : place d i ≡ place c i
  pub mapped : entry d i ≡ entry c i

pub first_pair_alike : (c d : List ℕ) (i : ℕ) → SameAt c d i → first_pair d i ≡ first_pair c i
first_pair_alike c d i s = first_pair_entry d i ∙ rw s.mapped (sym (first_pair_entry c i))

pub pairs_at_alike : (c d is : List ℕ) → Each (SameAt c d) is → pairs_at d is ≡ pairs_at c is
unfolding pairs_at
pairs_at_alike c d [] s = refl
pairs_at_alike c d (i ∷ is) s = rw (s.0.block, pairs_at_alike c d is s.1)

pub blocks_sound_alike : (c d is : List ℕ) → Each (SameAt c d) is → blocks_sound d is ≡ blocks_sound c is
unfolding blocks_sound
blocks_sound_alike c d [] s = refl
blocks_sound_alike c d (i ∷ is) s = rw (s.0.block, first_pair_alike c d i s.0, blocks_sound_alike c d is s.1)

pub first_reaches_alike : (c d : List ℕ) (k : ℕ) (is : List ℕ) → Each (SameAt c d) is → first_reaches d k is ≡ first_reaches c k is
unfolding first_reaches
first_reaches_alike c d k [] s = refl
first_reaches_alike c d k (i ∷ is) s = rw s.0.block

-- two cards that differ in free places and their map entries at most
pub record Alike (c d : List ℕ) : Type 0 where
  pub long : length d ≡ length c
  pub head : take 8 d ≡ take 8 c
  pub new : Each (SameAt c d) (new_places c)
  pub old : Each (SameAt c d) (old_places c)

pub word_alike : (c d : List ℕ) → Alike c d → (i : ℕ) → i < 8 → word d i ≡ word c i
word_alike c d a i h = sym (get_or-take 8 d i 0 h) ∙ rw a.head (get_or-take 8 c i 0 h)

module _ (c d : List ℕ) (a : Alike c d) where
  w0 : word d 0 ≡ word c 0
  w0 = word_alike c d a 0 (omega arith)

  w1 : word d 1 ≡ word c 1
  w1 = word_alike c d a 1 (omega arith)

  w2 : word d 2 ≡ word c 2
  w2 = word_alike c d a 2 (omega arith)

  w3 : word d 3 ≡ word c 3
  w3 = word_alike c d a 3 (omega arith)

  w4 : word d 4 ≡ word c 4
  w4 = word_alike c d a 4 (omega arith)

  w5 : word d 5 ≡ word c 5
  w5 = word_alike c d a 5 (omega arith)

  w6 : word d 6 ≡ word c 6
  w6 = word_alike c d a 6 (omega arith)

  w7 : word d 7 ≡ word c 7
  w7 = word_alike c d a 7 (omega arith)

  pub boundary_alike : boundary d ≡ boundary c
  boundary_alike = rw (w6, w7)

  pub old_places_alike : old_places d ≡ old_places c
  old_places_alike = rw (w2, w3, w4)

  pub new_places_alike : new_places d ≡ new_places c
  new_places_alike = rw (w2, w3, w4, w5)

  pub old_pairs_alike : pairs_at d (old_places d) ≡ pairs_at c (old_places c)
  old_pairs_alike = rw old_places_alike (pairs_at_alike c d (old_places c) a.old)

  pub new_pairs_alike : pairs_at d (new_places d) ≡ pairs_at c (new_places c)
  new_pairs_alike = rw new_places_alike (pairs_at_alike c d (new_places c) a.new)

  -- The live pairs are the same.
  pub live_alike : live d ≡ live c
  unfolding live
  live_alike = rw (new_pairs_alike, old_pairs_alike, boundary_alike)

  segments_alike : segments_sound d ≡ segments_sound c
  unfolding segments_sound
  segments_alike =
      rw (
        new_pairs_alike,
        old_pairs_alike,
        boundary_alike,
        new_places_alike,
        old_places_alike,
        blocks_sound_alike c d (new_places c) a.new,
        blocks_sound_alike c d (old_places c) a.old,
        first_reaches_alike c d (boundary c) (old_places c) a.old,
      )

  -- The judge's number is the same.
  pub judged_alike : judged d ≡ judged c
  unfolding judged boundary_agrees
  judged_alike = rw (segments_alike, a.long, w0, w1, w2, w3, w4, w5, w6, w7)
