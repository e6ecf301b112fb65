-- What the checker computes: every row of the table P1 to P8, P3 and P4 written out, and what the lists of events meet.
use mathlib.Core.Path.{◌≡◌, refl}
use mathlib.Core.Bool.{true, false}
use mathlib.Core.List.{[], ◌∷◌}
use lib.ListN.{length, take}
use Rattle.pair.specs.Rank.{rank}
use Rattle.pair.specs.Rising.{keep, above, within, rising_from, insert, last, any}
use Rattle.pair.specs.Tests.{same, first_of}
use Rattle.block.specs.Block.{zeros, pairs_from, pairs, formed_from, formed, leading, packed_after, block_of, fitting, due, goes_on}
use Rattle.card.specs.Layout.{width_of, first_pair, place, around, pairs_at, live, format_number, formatted, due_place}
use Rattle.card.specs.Sound.{blocks_sound, first_reaches, boundary_agrees, segments_sound, judged}
use Rattle.repeat.specs.Repeats.{repeats}
use Rattle.batch.specs.Batch.{updates, any_update, adds, removes, latest, withdrawn, with_added, applied, ill_formed, falls, arrivals, ill_numbered, batch_number}
use Rattle.update.specs.Step.{remains, spent, configured, next_boundary, freed, grown, configuration, due_block, due_entry, next_write, the_write, crowded, step_number, taken, refused, step}
use Rattle.update.specs.Pass.{blocks_from, blocks, finishes_within, refused_within}
use Rattle.found.specs.Found.{found, mapped_to, span, blocks_read, question_number, lookup_number, lookup}
use Rattle.history.specs.History.{just, torn_write, torn}
use Rattle.history.specs.History as history
use Rattle.history.specs.Claims.{ran, finishing, finished}
use Rattle.history.specs.Cases.{after_steps, three, fresh, first, add_eight_one, table, all_seen, Cases}
use Rattle.history.proofs.SmallCards.{cases}
use Rattle.pins.specs.Events.{blank, card, keeps_three, every_kind, met, meets}

-- P1 to P8
pub every_row_seen : all_seen table ≡ true
unfolding Cases
every_row_seen = cases

pub every_row_there : length table ≡ 30
every_row_there = refl

pub record Computed : Type 0 where
  -- P1's pass fills one block; it finishes within three steps, none of them refused, and not within two
  pub p1_blocks : blocks 8 (remains (fresh 4) three) ≡ 1
  pub p1_accepted : refused_within 3 (fresh 4) three ≡ false
  pub p1_ends : finishes_within 3 (fresh 4) three ≡ true
  pub p1_no_sooner : finishes_within 2 (fresh 4) three ≡ false
  -- P3, after the first block and after the second
  pub p3_block : place (after_steps 3 add_eight_one (first 4)) 1 ≡ 5 ∷ 2 ∷ 2 ∷ 9 ∷ 7 ∷ 1 ∷ 4 ∷ 0 ∷ []
  pub p3_boundary : take 8 (after_steps 3 add_eight_one (first 4)) ≡ 1 ∷ 8 ∷ 4 ∷ 1 ∷ 0 ∷ 1 ∷ 7 ∷ 4 ∷ []
  pub p3_last_block : place (after_steps 6 add_eight_one (first 4)) 2 ≡ 8 ∷ 1 ∷ 1 ∷ 0 ∷ 0 ∷ 0 ∷ 0 ∷ 0 ∷ []
  pub p3_finished : take 8 (after_steps 6 add_eight_one (first 4)) ≡ 1 ∷ 8 ∷ 4 ∷ 1 ∷ 2 ∷ 0 ∷ 0 ∷ 0 ∷ []
  -- P4, where the pass stops and how an empty batch ends it
  pub p4_boundary : take 8 (after_steps 3 add_eight_one (first 2)) ≡ 1 ∷ 8 ∷ 2 ∷ 1 ∷ 0 ∷ 1 ∷ 7 ∷ 4 ∷ []
  pub p4_full : (step (after_steps 3 add_eight_one (first 2)) add_eight_one).number ≡ 8
  pub p4_finished : take 8 (step (after_steps 3 add_eight_one (first 2)) []).card ≡ 1 ∷ 8 ∷ 2 ∷ 1 ∷ 1 ∷ 0 ∷ 0 ∷ 0 ∷ []
  -- the card of the lists of events, and what they meet and leave
  pub accepted : format_number blank 8 2 ≡ 0
  pub sound : judged card ≡ 0
  pub met : meets card every_kind ≡
      (1, 0) ∷ (1, 0) ∷ (2, 0) ∷ (2, 0) ∷ (3, 0) ∷ (3, 0) ∷ (0, 0) ∷ (0, 9) ∷ (0, 0) ∷ (0, 5) ∷ (0, 6) ∷ (0, 0) ∷ (3, 0) ∷ []
  pub finishes : finished card keeps_three ≡ true
  pub index : live (ran card keeps_three) ≡ rank 5 2 ∷ rank 5 9 ∷ rank 7 4 ∷ []

pub computed : Computed
unfolding keep above within rising_from insert last any same first_of zeros pairs_from pairs formed_from formed leading packed_after block_of fitting due goes_on width_of first_pair place around pairs_at live format_number formatted blocks_sound first_reaches boundary_agrees segments_sound judged updates any_update adds removes latest withdrawn with_added applied ill_formed falls arrivals ill_numbered repeats batch_number remains due_place spent configured next_boundary freed grown configuration due_block due_entry next_write the_write crowded step_number taken refused step found mapped_to span blocks_read question_number lookup_number lookup just torn_write torn history.after ran finishing finished after_steps fresh first met meets blocks_from blocks finishes_within refused_within
computed =
    record {
      p1_blocks = refl;
      p1_accepted = refl;
      p1_ends = refl;
      p1_no_sooner = refl;
      p3_block = refl;
      p3_boundary = refl;
      p3_last_block = refl;
      p3_finished = refl;
      p4_boundary = refl;
      p4_full = refl;
      p4_finished = refl;
      accepted = refl;
      sound = refl;
      met = refl;
      finishes = refl;
      index = refl;
    }
