-- The blocks that what remains fills, counted as they are packed.
use Rattle.std.specs.Prelude.{ℕ, ◌+◌, ◌-◌, ◌≤◌, ◌≡◌, true, cond, ◌&&◌, List, [], ◌∷◌, ◌++◌, length, ltb, eqb}
use Rattle.pair.specs.Rank.{term, Proper}
use Rattle.pair.specs.Rising.{Each, rising_from, last}
use Rattle.block.specs.Block.{packed}
use Rattle.card.specs.declared.layout.Configuration.{Configuration}
use Rattle.card.specs.Layout.{block_size, place_count, length_of_old, length_of_new, old_places}
use Rattle.update.specs.declared.forecast.Filling.{Filling}
use Rattle.update.specs.declared.forecast.Packed.{Packed}
use Rattle.update.specs.declared.forecast.Tally.{Tally}
use Rattle.update.specs.declared.old.Spent.{Spent}
use Rattle.update.specs.Forecast.{free_writes}
use Rattle.update.specs.Pass.{blocks}
use Rattle.update.specs.Step.{spent, remains}
use Rattle.update.specs.code.Merge.{left, Merges, run_at}
use Rattle.update.specs.code.Old.{Spends}

-- more blocks than any card and batch fill
abbrev pub blocks_most : ℕ
blocks_most = 2097152

-- how many configuration writes leave a place free with one block more, where n places are new and p in all, and the write leaves so many old ones
unfoldable pub free_with : ℕ → ℕ → Tally → ℕ → ℕ
free_with p n t held = cond (eqb t.free t.blocks && ltb (held + n + (t.blocks + 1)) p) (t.blocks + 1) t.free

abbrev pub counted : Configuration → Tally → Spent → ℕ → Tally
counted k t s held = record { blocks = t.blocks + 1; free = free_with k.places k.new_length t held; spent = s }

-- a block more that ends with the pair k, before others
pub record Closed (c : List ℕ) (t : Tally) (k : ℕ) (r : Tally) : Type 0 where
  pub blocks : r.blocks ≡ t.blocks + 1
  pub free : r.free ≡ free_with (place_count c) (length_of_new c) t (length_of_old c - spent c k (old_places c))
  pub spends : Spends c k r.spent

-- of the blocks that r fills those before the rest are counted
pub record Told (c r : List ℕ) (t : Tally) (rest : List ℕ) : Type 0 where
  pub few : t.free ≤ t.blocks
  pub filled : blocks (block_size c) r ≡ t.blocks + blocks (block_size c) rest
  pub writes :
      free_writes c (blocks (block_size c) r) (length_of_new c) r
      ≡ cond (eqb t.free t.blocks) (t.blocks + free_writes c (blocks (block_size c) rest) (length_of_new c + t.blocks) rest) t.free

-- the same, with the pairs ks in the block in hand
pub record Counts (c r : List ℕ) (f : Filling) (rest : List ℕ) : Type 0 where
  pub ks : List ℕ
  pub told : Told c r f.tally (ks ++ rest)
  pub sized : length (packed ks) ≡ f.used
  pub last_pair : last 0 ks ≡ f.last
  pub proper : Each Proper (ks ++ rest)

-- what a pair with so many of its term behind it, in the words from at on, is asked to be
pub record Addable (c : List ℕ) (f : Filling) (x at more : ℕ) : Type 0 where
  pub inside : f.used ≤ block_size c
  pub few : f.tally.blocks ≤ blocks_most
  pub spends : Spends c f.last f.tally.spent
  pub after : f.last ≤ x
  pub rising : rising_from x (run_at c (term x) at more) ≡ true
  pub short : more + 3 ≤ block_size c
  pub words : at + more ≤ length c

-- they are put into the block in hand, and into the next where it is full
pub record Added (c : List ℕ) (f : Filling) (x at more : ℕ) (r : Filling) : Type 0 where
  pub inside : r.used ≤ block_size c
  pub spends : Spends c r.last r.tally.spent
  pub last_pair : r.last ≡ last x (run_at c (term x) at more)
  pub counts : (whole rest : List ℕ) → Counts c whole f (x ∷ run_at c (term x) at more ++ rest) → Counts c whole r rest

-- the pairs up to k are packed
pub record Packs (c b : List ℕ) (f : Filling) (k : ℕ) : Type 0 where
  pub counts : Counts c (remains c b) f (left c b k)
  pub inside : f.used ≤ block_size c
  pub spends : Spends c f.last f.tally.spent
  pub after : f.last ≤ k

-- and no fewer than before
pub record PacksOn (c b : List ℕ) (k : ℕ) (r : Packed) : Type 0 where
  pub further : k ≤ r.place.rank
  pub packs : Packs c b r.filling r.place.rank
  pub merges : Merges c b r.place

-- all that remains is packed
pub record PackedAll (c b : List ℕ) (r : Filling) : Type 0 where
  pub few : r.tally.blocks ≤ blocks_most
  pub inside : r.used ≤ block_size c
  pub counts : Counts c (remains c b) r []
