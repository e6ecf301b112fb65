-- The configuration write of a step leaves a sound card of 32-bit words with the boundary set.
use Prim.Native.Nat.{ℕ, ◌+◌, ◌-◌, ◌<◌}
use mathlib.Core.Path.{◌≡◌, refl}
use mathlib.Core.Bool.{Bool, true, false}
use mathlib.Core.List.{List}
use native.Mathlib.Omega.{arith}
use lib.ListN.{length}
use Rattle.pair.specs.Rank.{term, position, Words}
use Rattle.pair.specs.Rising.{last}
use Rattle.block.specs.Block.{due, goes_on}
use Rattle.card.specs.Layout.{block_size, start_of_old, length_of_old, boundary_term, boundary_position, boundary, old_places}
use Rattle.card.specs.Sound.{judged}
use Rattle.card.proofs.Facts.{Facts}
use Rattle.update.specs.Step.{spent, next_boundary, grown, crowded}
use Rattle.update.proofs.Writes.{written}
use Rattle.update.proofs.Configuration.{next_boundary_on, mark_proper, fit_on, configuration_on, next_boundary_end, fit_end, configuration_end}
use Rattle.update.proofs.Segments.{with_segments, Fit, segments_sound_law, segments_words, segments_size, segments_term, segments_position, segments_boundary}
use Rattle.update.proofs.Grown.{Remaining, DueWritten}

-- what the configuration write sets
pub record Settled (c r : List ℕ) : Type 0 where
  pub start : ℕ
  pub old : ℕ
  pub new : ℕ
  pub is : written c r 3 ≡ with_segments c start old new (next_boundary c r)
  pub fit : Fit c start old new (next_boundary c r)
  pub small : term (next_boundary c r) < 4294967296

module _ (c r : List ℕ) (f : Facts c) (m : Remaining c r) (ready : 0 < length r → DueWritten c r) (free : crowded c r ≡ false) where
  pub settled : Settled c r
  settled = go (goes_on (block_size c) r) refl
    where
      go : (t : Bool) → goes_on (block_size c) r ≡ t → Settled c r
      go true on =
          record {
            start = start_of_old c + spent c (last 0 (due (block_size c) r)) (old_places c);
            old = length_of_old c - spent c (last 0 (due (block_size c) r)) (old_places c);
            new = grown c r;
            is = rw (next_boundary_on c r f m ready on) (configuration_on c r f m ready on);
            fit = rw (next_boundary_on c r f m ready on) (fit_on c r f m ready on free);
            small = rw (next_boundary_on c r f m ready on) (mark_proper c r f m ready on).term_high;
          }
      go false end =
          record {
            start = start_of_old c + length_of_old c;
            old = grown c r;
            new = 0;
            is = rw (next_boundary_end c r f m ready end) (configuration_end c r f m ready end);
            fit = rw (next_boundary_end c r f m ready end) (fit_end c r f m ready end free);
            small = rw (next_boundary_end c r f m ready end) (omega arith);
          }

  -- The configuration write leaves a sound card,
  pub configuration_sound : judged (written c r 3) ≡ 0
  configuration_sound = let s = settled in rw s.is (segments_sound_law c s.start s.old s.new (next_boundary c r) f s.fit)

  -- of 32-bit words,
  pub configuration_words_law : Words c → Words (written c r 3)
  configuration_words_law w = let s = settled in rw s.is (segments_words c s.start s.old s.new (next_boundary c r) f w s.fit s.small)

  -- with the same blocks and places,
  pub configuration_size : block_size (written c r 3) ≡ block_size c
  configuration_size = let s = settled in rw s.is (segments_size c s.start s.old s.new (next_boundary c r) f)

  -- and the boundary set.
  pub configuration_term : boundary_term (written c r 3) ≡ term (next_boundary c r)
  configuration_term = let s = settled in rw s.is (segments_term c s.start s.old s.new (next_boundary c r) f)

  pub configuration_position : boundary_position (written c r 3) ≡ position (next_boundary c r)
  configuration_position = let s = settled in rw s.is (segments_position c s.start s.old s.new (next_boundary c r) f)

  pub configuration_boundary : boundary (written c r 3) ≡ next_boundary c r
  configuration_boundary = let s = settled in rw s.is (segments_boundary c s.start s.old s.new (next_boundary c r) f)
