-- Numbers as decimal figures, written and read. A byte is its ASCII number.
use Rattle.std.specs.Prelude.{ℕ, zero, suc, ◌+◌, ◌*◌, ◌-◌, ◌/◌, ◌%◌, Bool, true, cond, ◌&&◌, ◌||◌, not, List, [], ◌∷◌, ◌++◌, length, get_or, ltb, leb, eqb}
use Rattle.pair.specs.Rank.{word_limit}

-- the byte of a figure from 0 to 9
abbrev pub figure : ℕ → ℕ
figure d = 48 + d

-- the last k figures of n: a number below ten is one figure, any other has those of its tenth part and one more
unfoldable pub last_figures : ℕ → ℕ → List ℕ
last_figures zero n = []
last_figures (suc k) n = let higher = last_figures k (n / 10) in cond (ltb n 10) (figure n ∷ []) (higher ++ figure (n % 10) ∷ [])

-- the decimal figures of n, which are no more than n + 1
unfoldable pub decimal : ℕ → List ℕ
decimal n = last_figures (suc n) n

unfoldable pub is_figure : ℕ → Bool
is_figure b = leb (figure 0) b && leb b (figure 9)

unfoldable pub all_figures : List ℕ → Bool
all_figures [] = true
all_figures (b ∷ bs) = is_figure b && all_figures bs

-- what figures are worth behind others that are worth v
unfoldable pub worth : ℕ → List ℕ → ℕ
worth v [] = v
worth v (b ∷ bs) = worth (10 * v + (b - figure 0)) bs

-- figures without leading zeros, 0 alone among them, of a number that a word holds
unfoldable pub is_number : List ℕ → Bool
is_number bs =
    ltb 0 (length bs) && (eqb (length bs) 1 || not (eqb (get_or bs 0 0) (figure 0))) && all_figures bs && ltb (worth 0 bs) word_limit
