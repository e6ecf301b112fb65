-- What is claimed of annulled rounds, written out, and a round that the checker annuls.
use Prim.Native.Nat.{ℕ, ◌*◌, ◌+◌, ◌%◌, ◌≤◌, ◌<◌}
use mathlib.Core.Path.{◌≡◌, refl}
use mathlib.Core.Bool.{true, ◌&&◌, not}
use mathlib.Core.List.{List, [], ◌∷◌}
use lib.Dec.{leb, eqb}
use Rattle.pair.specs.Rank.{rank}
use Rattle.pair.specs.Rising.{keep, above, rising_from, insert, last, any}
use Rattle.pair.specs.Tests.{same, first_of}
use Rattle.block.specs.Block.{zeros, pairs_from, pairs, formed_from, formed, leading, packed_after, block_of, fitting, due, goes_on}
use Rattle.card.specs.Layout.{width_of, first_pair, place, around, pairs_at, live, format_number, formatted, due_place}
use Rattle.card.specs.Sound.{blocks_sound, first_reaches, boundary_agrees, segments_sound, judged}
use Rattle.repeat.specs.Repeats.{repeats}
use Rattle.batch.specs.Batch.{Update, updates, any_update, adds, removes, latest, withdrawn, with_added, applied, ill_formed, falls, arrivals, ill_numbered, batch_number}
use Rattle.batch.specs.Claims.{RoundAlone, RoundAnnulled}
use Rattle.batch.proofs.Claims.{round_alone, round_annulled}
use Rattle.update.specs.Step.{remains, spent, configured, next_boundary, freed, grown, configuration, due_block, due_entry, next_write, the_write, crowded, step_number, taken, refused, step}
use Rattle.history.specs.Cases.{after_steps, fresh}

-- a batch of one record of kind 3: the positions from a to z go under every term, and nothing else does
pub a_round_alone :
    (a z n : ℕ) (s : List ℕ) → 0 < n →
    applied (updates (3 ∷ 0 ∷ a ∷ z ∷ n ∷ [])) s ≡ keep (λ x. not (leb a (x % 4294967296) && leb (x % 4294967296) z)) s
unfolding RoundAlone
a_round_alone = round_alone

-- in any batch with such a record: of its positions, under every term, those alone are left that an addition adds which did not arrive before it
pub a_round_annulled :
    (us : List Update) (a z n t p : ℕ) (s : List ℕ) →
    any_update (λ u. eqb u.kind 3 && eqb u.term 0 && eqb u.from a && eqb u.to z && eqb u.arrival n) us ≡ true → 0 < n →
    a ≤ p → p ≤ z → p < 4294967296 → any (eqb (t * 4294967296 + p)) (applied us s) ≡ true →
    any_update (λ u. adds (t * 4294967296 + p) u && leb n u.arrival) us ≡ true
unfolding RoundAnnulled
a_round_annulled = round_annulled

-- games of three terms, and the round from 2 to 4 annulled before one game is added in it
abbrev games : List ℕ
games = 1 ∷ 5 ∷ 2 ∷ 2 ∷ 1 ∷ 1 ∷ 5 ∷ 9 ∷ 9 ∷ 2 ∷ 1 ∷ 6 ∷ 3 ∷ 3 ∷ 3 ∷ 1 ∷ 7 ∷ 4 ∷ 4 ∷ 4 ∷ []

abbrev annulled : List ℕ
annulled = 3 ∷ 0 ∷ 2 ∷ 4 ∷ 1 ∷ 1 ∷ 6 ∷ 4 ∷ 4 ∷ 2 ∷ []

abbrev played : List ℕ
played = after_steps 6 games (fresh 4)

pub record Rounds : Type 0 where
  pub before : live played ≡ rank 5 2 ∷ rank 5 9 ∷ rank 6 3 ∷ rank 7 4 ∷ []
  pub ends : (step (after_steps 2 annulled played) annulled).finished ≡ true
  pub after : live (after_steps 3 annulled played) ≡ rank 5 9 ∷ rank 6 4 ∷ []
  pub sound : judged (after_steps 3 annulled played) ≡ 0
  -- rounds side by side, one within another, and two that start together
  pub several : applied (updates (3 ∷ 0 ∷ 1 ∷ 3 ∷ 1 ∷ 3 ∷ 0 ∷ 2 ∷ 2 ∷ 2 ∷ 3 ∷ 0 ∷ 2 ∷ 5 ∷ 3 ∷ 3 ∷ 0 ∷ 8 ∷ 8 ∷ 4 ∷ [])) (rank 1 5 ∷ rank 1 6 ∷ rank 2 1 ∷ rank 2 7 ∷ rank 3 8 ∷ []) ≡ rank 1 6 ∷ rank 2 7 ∷ []
  -- kind 3 with a term, kinds 1 and 2 without one, a round from 0, and to 0
  pub three_of_a_term : batch_number (3 ∷ 5 ∷ 2 ∷ 4 ∷ 1 ∷ []) ≡ 6
  pub addition_of_none : batch_number (1 ∷ 0 ∷ 2 ∷ 2 ∷ 1 ∷ []) ≡ 6
  pub removal_of_none : batch_number (2 ∷ 0 ∷ 2 ∷ 4 ∷ 1 ∷ []) ≡ 6
  pub from_none : batch_number (3 ∷ 0 ∷ 0 ∷ 4 ∷ 1 ∷ []) ≡ 6
  pub to_none : batch_number (3 ∷ 0 ∷ 4 ∷ 0 ∷ 1 ∷ []) ≡ 6
  -- it stands before the records of terms
  pub first : batch_number annulled ≡ 0
  pub behind_a_term : batch_number (1 ∷ 6 ∷ 4 ∷ 4 ∷ 2 ∷ 3 ∷ 0 ∷ 2 ∷ 4 ∷ 1 ∷ []) ≡ 7

pub rounds : Rounds
unfolding keep above rising_from insert last any same first_of zeros pairs_from pairs formed_from formed leading packed_after block_of fitting due goes_on width_of first_pair place around pairs_at live format_number formatted blocks_sound first_reaches boundary_agrees segments_sound judged updates any_update adds removes latest withdrawn with_added applied ill_formed falls arrivals ill_numbered repeats batch_number remains due_place spent configured next_boundary freed grown configuration due_block due_entry next_write the_write crowded step_number taken refused step after_steps fresh
rounds =
    record {
      before = refl;
      ends = refl;
      after = refl;
      sound = refl;
      several = refl;
      three_of_a_term = refl;
      addition_of_none = refl;
      removal_of_none = refl;
      from_none = refl;
      to_none = refl;
      first = refl;
      behind_a_term = refl;
    }
