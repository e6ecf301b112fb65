-- What putting a pair into a block in hand does to its words.
use Rattle.std.specs.Prelude.{ℕ, ◌+◌, ◌-◌, ◌≤◌, ◌<◌, ◌≢◌, Bool, cond, ◌&&◌, ◌||◌, Option, Some, None, List, length, set, ltb, leb, eqb}
use Rattle.pair.specs.Rank.{term, position}
use Rattle.block.specs.Block.{block_size_most, cost}
use Rattle.pack.specs.declared.Packing.{Packing}

-- the pair has room in n words, no more than a block has, and the count of its entry stands before the words to be used
unfoldable pub has_room : ℕ → Packing → ℕ → Bool
has_room n p x =
    leb n block_size_most && leb (p.used + cost (term p.last) x) n && (eqb (cost (term p.last) x) 3 || ltb p.count p.used)

-- what that says
pub record Room (n : ℕ) (p : Packing) (x : ℕ) : Type 0 where
  pub few : n ≤ block_size_most
  pub room : p.used + cost (term p.last) x ≤ n
  pub counted : cost (term p.last) x ≢ 3 → p.count < p.used

-- the words with the pair
unfoldable pub put_words : List ℕ → Packing → ℕ → List ℕ
put_words ws p x =
    cond (has_room (length ws) p x)
    (cond (eqb (cost (term p.last) x) 1) (set (set ws p.used (position x)) p.count (p.used - p.count))
    (set (set (set ws p.used (term x)) (p.used + 1) 1) (p.used + 2) (position x)))
    ws

-- the packing with the pair
unfoldable pub packing_with : Packing → ℕ → Packing
packing_with p x =
    cond (eqb (cost (term p.last) x) 1) (record { used = p.used + 1; last = x; count = p.count })
    (record { used = p.used + 3; last = x; count = p.used + 1 })

-- none where it has no room
unfoldable pub put : ℕ → Packing → ℕ → Option Packing
put n p x = cond (has_room n p x) (Some (packing_with p x)) None
