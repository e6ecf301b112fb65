-- The rounds that a batch annuls, and how the code finds those that start at or below a position.
use Rattle.std.specs.Prelude.{ℕ, zero, suc, max, ◌+◌, ◌-◌, ◌/◌, Bool, false, cond, ◌&&◌, ◌||◌, List, [], ◌∷◌, take, get_or, ltb, leb, eqb}
use Rattle.pair.specs.Rank.{rank}
use Rattle.batch.specs.Batch.{Update, any_update}

-- where the records start
unfoldable pub starts : List Update → List ℕ
starts [] = []
starts (u ∷ us) = rank u.term u.from ∷ starts us

-- for each of the leading records of kind 3 the greatest position, or k, that it and those before it reach to
unfoldable pub reaches_from : ℕ → List Update → List ℕ
reaches_from k [] = []
reaches_from k (u ∷ us) = cond (eqb u.kind 3) (max k u.to ∷ reaches_from (max k u.to) us) []

abbrev pub round_reaches : List Update → List ℕ
round_reaches us = reaches_from 0 us

-- a search by halving from low to high, in so many turns at most: how many numbers are at most p, where they do not fall
unfoldable pub halving : List ℕ → ℕ → ℕ → ℕ → ℕ → ℕ
halving xs p zero low high = low
halving xs p (suc turns) low high =
    let middle = low + (high - low) / 2 in
    cond (ltb low high)
    (cond (leb (get_or xs middle 0) p) (halving xs p turns (middle + 1) high) (halving xs p turns low middle))
    low

-- of the first n numbers the last of the first j is at most p, and the next one is not
unfoldable pub stands : List ℕ → ℕ → ℕ → ℕ → Bool
stands xs n j p = leb j n && (eqb j 0 || leb (get_or xs (j - 1) 0) p) && (eqb j n || ltb p (get_or xs j 0))

-- j or the next place where it stands there, else what halving finds
unfoldable pub begun : List ℕ → ℕ → ℕ → ℕ → ℕ
begun xs n j p = cond (stands xs n j p) j (cond (stands xs n (j + 1) p) (j + 1) (halving xs p n 0 n))

-- the first j records reach to p
unfoldable pub reached : List ℕ → ℕ → ℕ → Bool
reached ts zero p = false
reached ts (suc i) p = leb p (get_or ts i 0)

-- one of the first j records reaches to p and arrived after a
unfoldable pub annuls_later : List Update → ℕ → ℕ → ℕ → Bool
annuls_later us j p a = any_update (λ u. leb p u.to && ltb a u.arrival) (take j us)
