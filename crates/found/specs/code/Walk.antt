-- The blocks that a lookup reads, one run of wanted positions after another.
use Rattle.std.specs.Prelude.{ℕ, ◌+◌, ◌≤◌, ◌<◌, ◌≡◌, Bool, true, List, [], ◌∷◌, ◌++◌, map, length, take, drop}
use Rattle.pair.specs.Rank.{position}
use Rattle.pair.specs.Rising.{Each, keep}
use Rattle.block.specs.Block.{pairs, words_before, formed}
use Rattle.wanted.specs.code.Wanted.{is_wanted}
use Rattle.wanted.specs.declared.Part.{Part}
use Rattle.card.specs.Layout.{place_count, place_at, place, around, pairs_at}
use Rattle.card.specs.code.Configuration.{Shaped}
use Rattle.found.specs.declared.walk.Stretch.{Stretch}
use Rattle.found.specs.declared.walk.Walk.{Walk}

-- the part lies in the card; of a live block it has the wanted positions, and starts where the first of them stands
pub record PlacePart (c : List ℕ) (i t a z : ℕ) (r : Part) : Type 0 where
  pub inside : r.start + r.len ≤ length c
  pub positions : formed (place c i) ≡ true → take r.len (drop r.start c) ≡ map position (keep (is_wanted t a z) (pairs (place c i)))
  pub before :
      formed (place c i) ≡ true → 0 < r.len →
      r.start ≡ place_at c i + words_before (is_wanted t a z) (place c i) 0 0

-- the positions of the pairs that pass the test, in the blocks at the places
unfoldable pub postings : List ℕ → (ℕ → Bool) → List ℕ → List ℕ
postings c f is = map position (keep f (pairs_at c is))

-- what the first of the places has at which some pair passes the test; the last argument where there is no such place
unfoldable pub at_first : {A : Type 0} → List ℕ → (ℕ → Bool) → (ℕ → A) → List ℕ → A → A
at_first c f has [] none = none
at_first c f has (i ∷ is) none = elim (keep f (pairs (place c i))) [ [] ↦ at_first c f has is none | x ∷ xs ↦ has i ]

-- the positions of the pairs that pass the test, in the first of the places that has any, and where in the card they start
abbrev pub run_of : List ℕ → (ℕ → Bool) → List ℕ → List ℕ → List ℕ
run_of c f is none = at_first c f (λ i. map position (keep f (pairs (place c i)))) is none

abbrev pub run_start_of : List ℕ → (ℕ → Bool) → List ℕ → ℕ → ℕ
run_start_of c f is none = at_first c f (λ i. place_at c i + words_before f (place c i) 0 0) is none

abbrev pub places_of : List ℕ → Stretch → List ℕ
places_of c s = around (place_count c) s.place s.blocks

-- the wanted positions of a stretch
abbrev pub ahead_of : List ℕ → ℕ → ℕ → Stretch → List ℕ
ahead_of c t z s = postings c (is_wanted t s.after z) (places_of c s)

-- its first run, and where in the card that starts; the last argument where nothing is wanted
abbrev pub first_run : List ℕ → ℕ → ℕ → Stretch → List ℕ → List ℕ
first_run c t z s none = run_of c (is_wanted t s.after z) (places_of c s) none

abbrev pub first_start : List ℕ → ℕ → ℕ → Stretch → ℕ → ℕ
first_start c t z s none = run_start_of c (is_wanted t s.after z) (places_of c s) none

-- a stretch that has blocks lies in a card of the right shape, and they are live blocks
pub record Ready (c : List ℕ) (s : Stretch) : Type 0 where
  pub shape : 0 < s.blocks → Shaped c
  pub within : 0 < s.blocks → s.place < place_count c
  pub live : Each (λ i. formed (place c i) ≡ true) (places_of c s)

-- the first place of a stretch, and what is behind it
pub record FirstPlace (c : List ℕ) (s : Stretch) (place : ℕ) (behind : Stretch) : Type 0 where
  pub fewer : behind.blocks < s.blocks
  pub after : behind.after ≡ s.after
  pub places : Ready c s → places_of c s ≡ place ∷ places_of c behind
  pub ready : Ready c s → Ready c behind

-- the first run of a stretch: a part of the card, with fewer blocks behind it; of live blocks it is their first run, whatever stands for none,
-- and what was ahead is the run and what is ahead behind it
pub record FirstRun (c : List ℕ) (t z : ℕ) (s : Stretch) (part : Part) (behind : Stretch) : Type 0 where
  pub inside : part.start + part.len ≤ length c
  pub some : 0 < part.len
  pub fewer : behind.blocks < s.blocks
  pub ready : Ready c s → Ready c behind
  pub run : Ready c s → (none : List ℕ) → take part.len (drop part.start c) ≡ first_run c t z s none
  pub starts : Ready c s → (none : ℕ) → part.start ≡ first_start c t z s none
  pub rest : Ready c s → ahead_of c t z s ≡ take part.len (drop part.start c) ++ ahead_of c t z behind

-- the same of a walk
abbrev pub ahead : List ℕ → Walk → List ℕ
ahead c w = ahead_of c w.term w.to w.new ++ ahead_of c w.term w.to w.old

abbrev pub blocks_of : Walk → ℕ
blocks_of w = w.new.blocks + w.old.blocks

-- the first run of the new segment's blocks, or else of the old segment's
abbrev pub next_run : List ℕ → Walk → List ℕ
next_run c w = first_run c w.term w.to w.new (first_run c w.term w.to w.old [])

abbrev pub next_start : List ℕ → Walk → ℕ
next_start c w = first_start c w.term w.to w.new (first_start c w.term w.to w.old 0)

pub record ReadyWalk (c : List ℕ) (w : Walk) : Type 0 where
  pub new : Ready c w.new
  pub old : Ready c w.old

-- the next run of a walk: a part of the card, with fewer blocks behind it; of a walk over live blocks it is the next run, and what was ahead is
-- the run and what is ahead behind it
pub record NextRun (c : List ℕ) (w : Walk) (part : Part) (behind : Walk) : Type 0 where
  pub inside : part.start + part.len ≤ length c
  pub some : 0 < part.len
  pub fewer : blocks_of behind < blocks_of w
  pub ready : ReadyWalk c w → ReadyWalk c behind
  pub run : ReadyWalk c w → take part.len (drop part.start c) ≡ next_run c w
  pub starts : ReadyWalk c w → part.start ≡ next_start c w
  pub rest : ReadyWalk c w → ahead c w ≡ take part.len (drop part.start c) ++ ahead c behind
