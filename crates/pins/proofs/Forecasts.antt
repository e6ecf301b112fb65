-- What is claimed of forecasts, written out, and forecasts that the checker computes.
use Prim.Native.Nat.{ℕ, max, ◌+◌, ◌*◌, ◌-◌, ◌≤◌, ◌<◌}
use native.Mathlib.Omega.{arith}
use mathlib.Core.Path.{◌≡◌, refl, ◌∙◌, ap}
use mathlib.Core.Bool.{true, false, cond}
use mathlib.Core.List.{List, [], ◌∷◌}
use lib.Dec.{eqb}
use Rattle.pair.specs.Rank.{Words}
use Rattle.pair.specs.Rising.{keep, above, rising_from, insert, last, any}
use Rattle.pair.specs.Tests.{same, first_of}
use Rattle.block.specs.Block.{zeros, pairs_from, pairs, formed_from, formed, leading, packed_after, block_of, fitting, due, goes_on}
use Rattle.card.specs.Layout.{place_count, length_of_old, length_of_new, width_of, first_pair, place, around, pairs_at, live, format_number, formatted, due_place}
use Rattle.card.specs.Sound.{blocks_sound, first_reaches, boundary_agrees, segments_sound, judged}
use Rattle.repeat.specs.Repeats.{repeats}
use Rattle.batch.specs.Batch.{updates, any_update, adds, removes, latest, withdrawn, with_added, applied, ill_formed, falls, arrivals, ill_numbered, batch_number}
use Rattle.update.specs.Forecast.{Refused, Finishes, Stops}
use Rattle.update.specs.Step.{remains, spent, configured, next_boundary, freed, grown, configuration, due_block, due_entry, next_write, the_write, crowded, step_number, taken, refused, step}
use Rattle.update.specs.Pass.{blocks_from, blocks, step_limit, uncut}
use Rattle.update.specs.Forecast.{number_of, blocks_of, limit_of, finishes_of, writes_of, free_writes, foreseen, outlook, forecast_number, forecast, foretold}
use Rattle.history.specs.Claims.{free_places, ForecastAgrees, EmptyFits, RemovalsFit}
use Rattle.history.specs.Cases.{after_steps, three, add_eight_one, remove_both, fresh, first}
use Rattle.history.proofs.Fits.{forecast_agrees, empty_fits, removals_fit}

-- an uncut run of as many steps as the forecast's limit, one at least, or more: refused at once with the number that the forecast gives, or finished with
-- a configuration write for each block, or one where there is none, or stopped with number 8 after as many as the forecast says
module _ (c b : List ℕ) (wc : Words c) (wb : Words b) (n : ℕ) (h : 0 < n) where
  pub forecast_refused : (k : ℕ) → forecast c b ≡ Refused k → uncut n c b ≡ record { number = k; finished = false; writes = 0 }
  unfolding ForecastAgrees foretold
  forecast_refused k e = (forecast_agrees c b wc wb).run n h (rw e (omega arith)) ∙ ap foretold e

  pub forecast_finishes : (g l : ℕ) → forecast c b ≡ Finishes g l → l ≤ n → uncut n c b ≡ record { number = 0; finished = true; writes = max 1 g }
  unfolding ForecastAgrees foretold
  forecast_finishes g l e m = (forecast_agrees c b wc wb).run n h (rw e m) ∙ ap foretold e

  pub forecast_stops : (g l w : ℕ) → forecast c b ≡ Stops g l w → l ≤ n → uncut n c b ≡ record { number = 8; finished = false; writes = w }
  unfolding ForecastAgrees foretold
  forecast_stops g l w e m = (forecast_agrees c b wc wb).run n h (rw e m) ∙ ap foretold e

-- after a step that goes on: no refusal, the same end, one block and one write fewer where the step wrote the configuration, and the limit by the
-- blocks that are left
pub forecast_after_a_step :
    (c b : List ℕ) → Words c → Words b → (step c b).number ≡ 0 → (step c b).finished ≡ false →
    let before = forecast c b in
    let after = forecast (step c b).card b in
    let w : ℕ = cond (eqb (step c b).write 3) 1 0 in
    (number_of after ≡ 0)
    × (finishes_of after ≡ finishes_of before)
    × (blocks_of after + w ≡ blocks_of before)
    × (limit_of after ≡ cond (eqb (blocks_of after) 0) 1 (3 * blocks_of after))
    × (writes_of after + cond (finishes_of before) 0 w ≡ writes_of before)
unfolding ForecastAgrees
forecast_after_a_step c b wc wb z q = let a = (forecast_agrees c b wc wb).next z q in (a.number, a.finishes, a.blocks, a.limit, a.writes)

-- an empty batch fits
pub empty_fits_written_out : (c : List ℕ) → Words c → judged c ≡ 0 → finishes_of (forecast c []) ≡ true
unfolding EmptyFits
empty_fits_written_out = empty_fits

-- and removals only do where two places are free
pub removals_fit_written_out :
    (c b : List ℕ) → Words c → Words b → judged c ≡ 0 → batch_number b ≡ 0 → any_update (λ u. eqb u.kind 1) (updates b) ≡ false →
    2 ≤ place_count c - (length_of_old c + length_of_new c) → finishes_of (forecast c b) ≡ true
unfolding RemovalsFit free_places
removals_fit_written_out = removals_fit

pub record Forecasts : Type 0 where
  -- P1: one block, three steps
  pub p1 : forecast (fresh 4) three ≡ Finishes 1 3
  -- P3: two blocks; P4: the same with two places, where the pass stops after one configuration write and an empty batch ends it
  pub p3 : forecast (first 4) add_eight_one ≡ Finishes 2 6
  pub p4 : forecast (first 2) add_eight_one ≡ Stops 2 6 1
  pub p4_stopped : forecast (after_steps 3 add_eight_one (first 2)) add_eight_one ≡ Stops 1 3 0
  pub p4_empty : forecast (after_steps 3 add_eight_one (first 2)) [] ≡ Finishes 0 1
  -- P6: nothing remains
  pub p6 : forecast (first 4) remove_both ≡ Finishes 0 1
  -- a batch that is not in order, and one that has an arrival number twice besides
  pub unordered : forecast (fresh 4) (1 ∷ 7 ∷ 4 ∷ 4 ∷ 1 ∷ 1 ∷ 5 ∷ 2 ∷ 2 ∷ 2 ∷ []) ≡ Refused 7
  pub numbered_twice : forecast (fresh 4) (1 ∷ 7 ∷ 4 ∷ 4 ∷ 1 ∷ 1 ∷ 5 ∷ 2 ∷ 2 ∷ 1 ∷ []) ≡ Refused 14

pub forecasts : Forecasts
unfolding keep above rising_from insert last any same first_of zeros pairs_from pairs formed_from formed leading packed_after block_of fitting due goes_on width_of first_pair place around pairs_at live format_number formatted blocks_sound first_reaches boundary_agrees segments_sound judged updates any_update adds removes latest withdrawn with_added applied ill_formed falls arrivals ill_numbered repeats batch_number remains due_place spent configured next_boundary freed grown configuration due_block due_entry next_write the_write crowded step_number taken refused step after_steps fresh first blocks_from blocks step_limit free_writes foreseen outlook forecast_number forecast
forecasts = record { p1 = refl; p3 = refl; p4 = refl; p4_stopped = refl; p4_empty = refl; p6 = refl; unordered = refl; numbered_twice = refl }
