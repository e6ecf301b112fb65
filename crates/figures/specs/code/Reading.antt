-- What the code reads and writes.
use Rattle.std.specs.Prelude.{ℕ, ◌+◌, ◌*◌, ◌-◌, cond, ◌&&◌, Option, Some, None, List, [], length, ltb, leb, eqb}
use Rattle.std.proofs.lemmas.List.Edits.{sets}
use Rattle.pair.specs.Rank.{word_limit}
use Rattle.figures.specs.Figures.{figure, decimal, is_figure, worth, is_number}

-- the number that bytes show
unfoldable pub number_in : List ℕ → Option ℕ
number_in bs = cond (is_number bs) (Some (worth 0 bs)) None

-- the number with a figure more; none where the byte is no figure, or no word holds it
unfoldable pub with_figure : ℕ → ℕ → Option ℕ
with_figure v b = cond (is_figure b && ltb (10 * v + (b - figure 0)) word_limit) (Some (10 * v + (b - figure 0))) None

-- the figures of n before others: none where n is 0
unfoldable pub leading : ℕ → List ℕ
leading n = cond (eqb n 0) [] (decimal n)

-- the memory with the figures of n from a byte on; as it was where they have no room
unfoldable pub put_number : List ℕ → ℕ → ℕ → List ℕ
put_number memory at n = cond (leb (at + length (decimal n)) (length memory)) (sets memory at (decimal n)) memory
