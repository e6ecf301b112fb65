-- What is claimed of figures, each as a type that a theorem inhabits.
use Rattle.std.specs.Prelude.{ℕ, ◌<◌, ◌≡◌, true, List}
use Rattle.pair.specs.Rank.{word_limit}
use Rattle.figures.specs.Figures.{decimal, worth, is_number}

-- the figures of a word are read as that word
unfoldable pub NumbersRead : Type 0
NumbersRead = (n : ℕ) → n < word_limit → (is_number (decimal n) ≡ true) × (worth 0 (decimal n) ≡ n)

-- and nothing else is read as a number: a word's figures alone
unfoldable pub NumbersOnly : Type 0
NumbersOnly = (bs : List ℕ) → is_number bs ≡ true → (bs ≡ decimal (worth 0 bs)) × (worth 0 bs < word_limit)
