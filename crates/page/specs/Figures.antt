-- Columns in which numbers stand right-aligned.
use Rattle.std.specs.Prelude.{ℕ, ◌-◌, List, ◌++◌, length, replicate}
use Rattle.figures.specs.Figures.{decimal}

abbrev pub blank : ℕ
blank = 32

abbrev pub column_width : ℕ
column_width = 10

-- n right-aligned in ten columns
unfoldable pub column : ℕ → List ℕ
column n = replicate (column_width - length (decimal n)) blank ++ decimal n

-- ten columns with nothing in them
abbrev pub no_column : List ℕ
no_column = replicate column_width blank
