-- The old segment read pair by pair: what is still to come after a place in it.
use Rattle.std.specs.Prelude.{Option, Some, None, IfSome, ℕ, zero, suc, ◌+◌, ◌-◌, ◌%◌, ◌≤◌, ◌<◌, ◌≡◌, true, cond, List, [], ◌∷◌, ◌++◌, length, take, drop, get_or, eqb}
use Rattle.pair.specs.Rank.{rank}
use Rattle.pair.specs.Rising.{above, rising_from, last}
use Rattle.block.specs.Block.{pairs_from, pairs, formed_from}
use Rattle.card.specs.Layout.{block_size, place_count, start_of_old, length_of_old, place, around, old_places, pairs_at}
use Rattle.card.specs.code.Configuration.{Shaped}
use Rattle.card.specs.Sound.{blocks_sound}
use Rattle.update.specs.declared.old.OldCursor.{OldCursor}
use Rattle.update.specs.declared.old.Spent.{Spent}
use Rattle.update.specs.Step.{spent}

-- the words of a block from the word at on
abbrev pub rest : List ℕ → ℕ → ℕ → List ℕ
rest c at end = take (end - at) (drop at c)

-- the old pairs after the one in hand
unfoldable pub coming : List ℕ → OldCursor → List ℕ
coming c o = pairs_from (rest c o.at o.end) o.term o.count ++ pairs_at c (around (place_count c) o.place o.places)

-- the old pairs from the one in hand on, none where there is none in hand
unfoldable pub pending : List ℕ → OldCursor → List ℕ
pending c o = cond (eqb o.rank 0) [] (o.rank ∷ coming c o)

-- the pair in hand, if there is one
unfoldable pub in_hand : OldCursor → Option ℕ
in_hand o = cond (eqb o.rank 0) None (Some o.rank)

-- before the first pair
abbrev pub before_first : List ℕ → OldCursor
before_first c = record { place = start_of_old c; places = length_of_old c; at = 0; end = 0; term = 0; count = 0; rank = 0 }

-- an entry stands at the word at of a block that ends at end
pub record BlockEntry (c : List ℕ) (at end : ℕ) : Type 0 where
  pub inside : at + 2 < end
  pub ends : end ≤ length c
  pub counted : 0 < get_or c (at + 1) 0

-- its first pair is read
unfoldable pub entry_read : List ℕ → ℕ → ℕ → ℕ → ℕ → OldCursor
entry_read c at end place places =
    record {
      place = place;
      places = places;
      at = at + 3;
      end = end;
      term = get_or c at 0;
      count = get_or c (at + 1) 0 - 1;
      rank = rank (get_or c at 0) (get_or c (at + 2) 0);
    }

-- the words from at on are well formed, after some position of the term in hand
pub record Reading (c : List ℕ) (at end t n : ℕ) : Type 0 where
  pub position : ℕ
  pub formed : formed_from (rest c at end) t n position ≡ true

-- the cursor stands in the card: its block and the places left are well formed, and the pairs to come rise
pub record Stands (c : List ℕ) (o : OldCursor) : Type 0 where
  pub shaped : Shaped c
  pub inside : o.at ≤ o.end
  pub ends : o.end ≤ length c
  pub short : o.end + 3 ≤ o.at + block_size c
  pub within : o.place < place_count c
  pub reading : Reading c o.at o.end o.term o.count
  pub sound : blocks_sound c (around (place_count c) o.place o.places) ≡ true
  pub rising : rising_from o.rank (coming c o) ≡ true

-- one pair further
pub record Advanced (c : List ℕ) (o r : OldCursor) : Type 0 where
  pub stands : Stands c r
  pub next : pending c r ≡ coming c o

-- further to the pairs above k
pub record Skipped (c : List ℕ) (o : OldCursor) (k : ℕ) (r : OldCursor) : Type 0 where
  pub stands : Stands c r
  pub next : pending c r ≡ above k (pending c o)

-- another position of the term in hand
abbrev pub position_on : List ℕ → OldCursor → OldCursor
position_on c o =
    record {
      place = o.place;
      places = o.places;
      at = o.at + 1;
      end = o.end;
      term = o.term;
      count = o.count - 1;
      rank = rank o.term (get_or c o.at 0);
    }

-- n of them
unfoldable pub along : List ℕ → OldCursor → ℕ → OldCursor
along c o zero = o
along c o (suc n) = position_on c (along c o n)

-- the first n old places have no pair above k
pub record Freeing (c : List ℕ) (k n : ℕ) : Type 0 where
  pub within : n ≤ length_of_old c
  pub sound : blocks_sound c (around (place_count c) (start_of_old c + n) (length_of_old c - n)) ≡ true
  pub counted : spent c k (old_places c) ≡ n + spent c k (around (place_count c) (start_of_old c + n) (length_of_old c - n))

-- the last pair of the place behind the first n
pub record EndsAt (c : List ℕ) (n last_pair : ℕ) : Type 0 where
  pub inside : n < length_of_old c
  pub is : last_pair ≡ last 0 (pairs (place c ((start_of_old c + n) % place_count c)))

-- they are some of those with no pair above k, and where the last pair of the place behind them is told, it is that
pub record Spends (c : List ℕ) (k : ℕ) (s : Spent) : Type 0 where
  pub freeing : Freeing c k s.count
  pub known : IfSome s.last (EndsAt c s.count)

-- and all of them
pub record SpentTo (c : List ℕ) (k : ℕ) (s : Spent) : Type 0 where
  pub spends : Spends c k s
  pub count : s.count ≡ spent c k (old_places c)
