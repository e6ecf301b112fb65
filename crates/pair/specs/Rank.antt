-- A pair of a term and a position is written as one number, its rank: for 32-bit words the order of the ranks is the order by term, then position.
use Rattle.std.specs.Prelude.{ℕ, ◌+◌, ◌*◌, ◌/◌, ◌%◌, ◌≤◌, ◌<◌, List, get_or}

-- words of 32 bits are below this number
abbrev pub word_limit : ℕ
word_limit = 4294967296

abbrev pub rank : ℕ → ℕ → ℕ
rank t p = t * word_limit + p

abbrev pub term : ℕ → ℕ
term k = k / word_limit

abbrev pub position : ℕ → ℕ
position k = k % word_limit

-- a list of 32-bit words
unfoldable pub Words : List ℕ → Type 0
Words ws = (i : ℕ) → get_or ws i 0 < word_limit

-- the number is the rank of a pair: its term and its position are 32-bit words of at least 1
pub record Proper (k : ℕ) : Type 0 where
  pub term_low : 1 ≤ term k
  pub term_high : term k < word_limit
  pub position_low : 1 ≤ position k
