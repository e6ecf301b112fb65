-- What the judge's walk over live blocks tells.
use Rattle.std.specs.Prelude.{ℕ, Bool, cond, ◌&&◌, List, get_or, eqb, Option, Some, None}
use Rattle.pair.specs.Rising.{rising_from, last}
use Rattle.block.specs.Block.{pairs}
use Rattle.block.specs.declared.Ends.{Ends}
use Rattle.card.specs.Layout.{boundary, place, old_places, new_places, pairs_at}
use Rattle.card.specs.Sound.{live_block, blocks_sound, first_reaches}

-- of a live block that the map names the first and the last pair
unfoldable pub block_scanned : List ℕ → ℕ → Option Ends
block_scanned c i =
    cond (live_block c i) (Some (record { first = get_or (pairs (place c i)) 0 0; last = last 0 (pairs (place c i)) })) None

-- the blocks at the places are sound, and their pairs rise from block to block, the first above k
abbrev pub segment_sound : List ℕ → ℕ → List ℕ → Bool
segment_sound c k is = blocks_sound c is && rising_from k (pairs_at c is)

-- the last pair of blocks that do, k where there are none
unfoldable pub segment_scanned : List ℕ → ℕ → List ℕ → Option ℕ
segment_scanned c k is = cond (segment_sound c k is) (Some (last k (pairs_at c is))) None

-- the new segment is sound and ends at the boundary
unfoldable pub new_sound : List ℕ → Bool
new_sound c = segment_sound c 0 (new_places c) && eqb (last 0 (pairs_at c (new_places c))) (boundary c)

-- the old segment is sound, and its first block reaches above the boundary
unfoldable pub old_sound : List ℕ → Bool
old_sound c = segment_sound c 0 (old_places c) && first_reaches c (boundary c) (old_places c)
