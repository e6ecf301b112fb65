-- What a reader of a page sees in its bytes: numbers in columns, and line feeds.
use Rattle.std.specs.Prelude.{ℕ, ◌+◌, ◌*◌, ◌-◌, ◌/◌, cond, not, List, [], ◌∷◌, length, take, drop, eqb}
use Rattle.pair.specs.Rising.{keep, any}
use Rattle.page.specs.Figures.{blank, column_width}
use Rattle.page.specs.Page.{line_feed, line_fields, field_bytes, line_bytes, joined}

-- the number in a column: a blank adds nothing, a figure makes it ten times what it was and the figure's own worth more
unfoldable pub number_from : ℕ → List ℕ → ℕ
number_from v [] = v
number_from v (b ∷ bs) = number_from (cond (eqb b blank) v (10 * v + (b - 48))) bs

unfoldable pub number_in : List ℕ → ℕ
number_in bs = number_from 0 bs

-- what a field shows: nothing where it is all blanks
unfoldable pub shown : List ℕ → List ℕ
shown bs = cond (any (λ b. not (eqb b blank)) bs) (number_in bs ∷ []) []

-- of parts of w bytes, the one after i others
unfoldable pub part : ℕ → ℕ → List ℕ → List ℕ
part w i bs = take w (drop (w * i) bs)

-- the positions stand in the five fields behind the first ten columns of each line
unfoldable pub positions_in_line : List ℕ → List ℕ
positions_in_line l = joined (λ j. shown (part field_bytes j (drop column_width l))) line_fields

unfoldable pub positions_in : List ℕ → List ℕ
positions_in bs = joined (λ i. positions_in_line (part line_bytes i bs)) (length bs / line_bytes)

-- the term stands in the first ten columns
unfoldable pub term_in : List ℕ → ℕ
term_in bs = number_in (take column_width bs)

unfoldable pub line_feeds_in : List ℕ → ℕ
line_feeds_in bs = length (keep (eqb line_feed) bs)
