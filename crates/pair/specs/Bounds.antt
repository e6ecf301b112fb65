-- The lowest and the highest pair.
use Rattle.std.specs.Prelude.{ℕ, Bool, ◌&&◌, leb}
use Rattle.pair.specs.declared.Pair.{Pair}

abbrev pub lowest : Pair
lowest = record { term = 1; position = 1 }

abbrev pub highest : Pair
highest = record { term = 4294967295; position = 4294967295 }

-- the words are a term and a position: each is at least the lowest pair's and at most the highest pair's
abbrev pub is_pair : ℕ → ℕ → Bool
is_pair t p =
    (leb lowest.term t && leb t highest.term) && (leb lowest.position p && leb p highest.position)
