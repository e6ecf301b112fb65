-- The blocks of a segment that a lookup reads.
use Rattle.std.specs.Prelude.{ℕ, ◌+◌, ◌-◌, ◌%◌, ◌<◌, ◌≡◌, true, ◌&&◌, List, ltb, leb, length}
use Rattle.pair.specs.Rank.{word_limit, rank}
use Rattle.pair.specs.Rising.{rising_from}
use Rattle.wanted.specs.code.Wanted.{is_wanted}
use Rattle.card.specs.Layout.{place_count, around, pairs_at}
use Rattle.card.specs.Sound.{blocks_sound}
use Rattle.card.specs.code.Configuration.{Ordered}
use Rattle.card.specs.declared.layout.Configuration.{Configuration}
use Rattle.found.specs.declared.walk.Stretch.{Stretch}
use Rattle.found.specs.declared.walk.Walk.{Walk}
use Rattle.found.specs.declared.walk.WalkCount.{WalkCount}
use Rattle.found.specs.Found.{found, mapped_to, span, blocks_read}
use Rattle.found.specs.Views.{run, run_start}
use Rattle.found.specs.code.Walk.{ahead, blocks_of, next_run, next_start, ReadyWalk}

-- the len places from start are sound blocks, rising from block to block
pub record SoundSegment (c : List ℕ) (k : Configuration) (start len : ℕ) : Type 0 where
  pub ordered : Ordered c k
  pub sound : blocks_sound c (around (place_count c) start len) ≡ true
  pub rises : rising_from 0 (pairs_at c (around (place_count c) start len)) ≡ true

-- the defined span
unfoldable pub spanned : List ℕ → ℕ → ℕ → ℕ → ℕ → ℕ → ℕ → Stretch
spanned c start len t a z after =
    record {
      place = (start + (mapped_to c (rank t a) (around (place_count c) start len) - 1)) % place_count c;
      blocks = span c t a z (around (place_count c) start len);
      after = after;
    }

-- the wanted pairs of a segment are those from a to z above the bound
pub record LiveAfter (t a z b r : ℕ) : Type 0 where
  pub same : (x : ℕ) → is_wanted t r z x ≡ (ltb b x && (leb (rank t a) x && leb x (rank t z)))

-- the walk that a lookup makes: what is ahead of it is what is found, and its blocks are those read
pub record LookupWalk (c : List ℕ) (t a z : ℕ) (w : Walk) : Type 0 where
  pub ready : ReadyWalk c w
  pub found : ahead c w ≡ found c t a z
  pub few : length (ahead c w) < word_limit
  pub blocks : blocks_of w ≡ blocks_read c t a z
  pub run : next_run c w ≡ run c t a z
  pub start : next_start c w ≡ run_start c t a z

-- the same with the count of what is ahead of it
pub record WalkCounted (c : List ℕ) (t a z : ℕ) (r : WalkCount) : Type 0 where
  pub walk : LookupWalk c t a z r.walk
  pub count : r.count ≡ length (ahead c r.walk)
