-- The merge of the old pairs with a batch.
use Rattle.std.specs.Prelude.{ℕ, zero, suc, ◌+◌, ◌≤◌, ◌<◌, ◌≡◌, min, Option, Some, None, List, [], ◌∷◌, ◌++◌, drop, get_or}
use Rattle.pair.specs.Rank.{rank, term}
use Rattle.pair.specs.Rising.{above}
use Rattle.card.specs.Layout.{boundary, live}
use Rattle.batch.specs.Batch.{updates, applied}
use Rattle.batch.specs.code.Search.{least_added, start, Follows}
use Rattle.update.specs.declared.merge.Merge.{Merge}
use Rattle.update.specs.code.Old.{pending, Stands, Advanced, before_first, position_on}

-- a place in the merge, with the pairs up to the one in hand passed: the live pairs above it are those of the old cursor, no record before
-- the one that additions are sought from adds a pair above it, and the cursor of decisions follows it
pub record Merges (c b : List ℕ) (m : Merge) : Type 0 where
  pub stands : Stands c m.old
  pub olds : above m.rank (live c) ≡ above m.rank (pending c m.old)
  pub adds : (j : ℕ) → m.rank ≤ j → least_added j (updates b) ≡ least_added j (drop m.addition (updates b))
  pub decides : Follows b m.rank m.decisions

-- the place before the first pair
pub record Begun (c : List ℕ) (m : Merge) : Type 0 where
  pub bound : m.rank ≡ boundary c
  pub old : Advanced c (before_first c) m.old
  pub addition : m.addition ≡ 0
  pub decisions : m.decisions ≡ start

-- what the batch makes of the live pairs, above k
abbrev pub left : List ℕ → List ℕ → ℕ → List ℕ
left c b k = above k (applied (updates b) (live c))

-- the place at the next pair: what was left above k is that pair and what is left above it
pub record Reached (c b : List ℕ) (k : ℕ) (m : Merge) : Type 0 where
  pub next : left c b k ≡ m.rank ∷ left c b m.rank
  pub merges : Merges c b m

-- that place, or none, where nothing is left
abbrev pub Merged : List ℕ → List ℕ → ℕ → Option Merge → Type 0
Merged c b k None = left c b k ≡ []
Merged c b k (Some m) = Reached c b k m

-- the lesser of two pairs, if there is one
abbrev pub lesser_of : Option ℕ → Option ℕ → Option ℕ
lesser_of None b = b
lesser_of (Some x) None = Some x
lesser_of (Some x) (Some y) = Some (min x y)

-- the pairs of the term t with the positions in n words from at on
unfoldable pub run_at : List ℕ → ℕ → ℕ → ℕ → List ℕ
run_at c t at zero = []
run_at c t at (suc n) = rank t (get_or c at 0) ∷ run_at c t (at + 1) n

-- the place one position further in the entry in hand, and n
abbrev pub place_on : List ℕ → Merge → Merge
place_on c m =
    record { rank = (position_on c m.old).rank; old = position_on c m.old; addition = m.addition; decisions = m.decisions }

unfoldable pub place_along : List ℕ → Merge → ℕ → Merge
place_along c m zero = m
place_along c m (suc n) = place_on c (place_along c m n)

-- behind the pair in hand the next n of its entry are left as they stand
pub record Runs (c b : List ℕ) (m : Merge) (n : ℕ) : Type 0 where
  pub inside : n ≤ m.old.count
  pub same_term : 0 < n → term m.rank ≡ m.old.term
  pub pairs : left c b m.rank ≡ run_at c m.old.term m.old.at n ++ left c b (place_along c m n).rank
  pub merges : Merges c b (place_along c m n)
