-- Two bounds are reached: with one place free removals can meet number 8, and two blocks more can be read than hold a posting in range.
use Prim.Native.Nat.{ℕ, ◌+◌}
use mathlib.Core.Path.{◌≡◌, refl}
use mathlib.Core.Bool.{false}
use mathlib.Core.List.{List, [], ◌∷◌}
use lib.Dec.{eqb}
use Rattle.pair.specs.Rank.{rank}
use Rattle.pair.specs.Rising.{keep, above, rising_from, last, any, insert}
use Rattle.pair.specs.Tests.{first_of}
use Rattle.block.specs.Block.{zeros, pairs_from, pairs, formed_from, formed, fitting, due, goes_on}
use Rattle.card.specs.Layout.{width_of, first_pair, place, around, pairs_at, live, boundary, old_places, new_places}
use Rattle.card.specs.Sound.{blocks_sound, first_reaches, boundary_agrees, segments_sound, judged}
use Rattle.repeat.specs.Repeats.{repeats}
use Rattle.batch.specs.Batch.{updates, any_update, adds, removes, latest, withdrawn, with_added, applied, ill_formed, falls, arrivals, ill_numbered, batch_number}
use Rattle.update.specs.Step.{remains, spent, next_boundary, freed, grown, crowded, step_number}
use Rattle.found.specs.Found.{mapped_to, span, blocks_read, holders, question_number}
use Rattle.history.specs.Claims.{free_places}

-- a sound card of three places of 8 words with two old blocks: (1,1) to (1,6), and (2,1)
abbrev pub narrow : List ℕ
narrow =
    1 ∷ 8 ∷ 3 ∷ 0 ∷ 2 ∷ 0 ∷ 0 ∷ 0
    ∷ 1 ∷ 1 ∷ 2 ∷ 1 ∷ 0 ∷ 0
    ∷ 1 ∷ 6 ∷ 1 ∷ 2 ∷ 3 ∷ 4 ∷ 5 ∷ 6
    ∷ 2 ∷ 1 ∷ 1 ∷ 0 ∷ 0 ∷ 0 ∷ 0 ∷ 0
    ∷ 0 ∷ 0 ∷ 0 ∷ 0 ∷ 0 ∷ 0 ∷ 0 ∷ 0 ∷ []

-- the batch that removes (1,6)
abbrev pub removes_last : List ℕ
removes_last = 2 ∷ 1 ∷ 6 ∷ 6 ∷ 1 ∷ []

pub record MeetsEight (c b : List ℕ) : Type 0 where
  pub sound : judged c ≡ 0
  pub in_order : batch_number b ≡ 0
  pub removals : any_update (λ u. eqb u.kind 1) (updates b) ≡ false
  pub one_free : free_places c ≡ 1
  pub number : step_number c b ≡ 8

-- two free places are needed: with one, a removal can meet number 8
pub two_places_needed : MeetsEight narrow removes_last
unfolding keep above rising_from last any first_of insert zeros pairs_from pairs formed_from formed fitting due goes_on width_of first_pair place around pairs_at live blocks_sound first_reaches boundary_agrees segments_sound judged updates any_update adds removes latest withdrawn with_added applied ill_formed falls arrivals ill_numbered repeats batch_number remains spent next_boundary freed grown crowded step_number free_places
two_places_needed = record { sound = refl; in_order = refl; removals = refl; one_free = refl; number = refl }

-- a sound card in mid-pass: the old block has (1,1) and (1,2), the new one (1,1)
abbrev pub mid_pass : List ℕ
mid_pass =
    1 ∷ 8 ∷ 3 ∷ 0 ∷ 1 ∷ 1 ∷ 1 ∷ 1
    ∷ 1 ∷ 1 ∷ 1 ∷ 1 ∷ 0 ∷ 0
    ∷ 1 ∷ 2 ∷ 1 ∷ 2 ∷ 0 ∷ 0 ∷ 0 ∷ 0
    ∷ 1 ∷ 1 ∷ 1 ∷ 0 ∷ 0 ∷ 0 ∷ 0 ∷ 0
    ∷ 0 ∷ 0 ∷ 0 ∷ 0 ∷ 0 ∷ 0 ∷ 0 ∷ 0 ∷ []

pub record ReadsTwo (c : List ℕ) (t a z : ℕ) : Type 0 where
  pub in_order : question_number c t a z ≡ 0
  pub read : blocks_read c t a z ≡ 2
  pub held : holders c 0 (rank t a) (rank t z) (new_places c) + holders c (boundary c) (rank t a) (rank t z) (old_places c) ≡ 0

-- for a term that is not there two blocks are read and none holds a posting
pub two_more_read : ReadsTwo mid_pass 9 1 9
unfolding keep above rising_from last any first_of zeros pairs_from pairs formed_from formed width_of first_pair place around pairs_at live blocks_sound first_reaches boundary_agrees segments_sound judged question_number blocks_read span mapped_to holders
two_more_read = record { in_order = refl; read = refl; held = refl }
