-- The bulletin page: a lookup's postings as lines of text.
use Rattle.std.specs.Prelude.{ℕ, ◌≡◌, zero, suc, ◌+◌, ◌*◌, ◌/◌, cond, not, List, [], ◌∷◌, ◌++◌, length, get_or, ltb, eqb}
use Rattle.std.proofs.lemmas.List.Edits.{sets}
use Rattle.pair.specs.Tests.{first_of}
use Rattle.found.specs.Found.{found, question_number}
use Rattle.page.specs.Figures.{blank, column, no_column}

abbrev pub line_feed : ℕ
line_feed = 10

-- postings of a line
abbrev pub line_fields : ℕ
line_fields = 5

-- bytes of a field, and of a line with its line feed
abbrev pub field_bytes : ℕ
field_bytes = 11

abbrev pub line_bytes : ℕ
line_bytes = 66

-- n lists end to end: f 0, f 1 and so on
unfoldable pub joined : (ℕ → List ℕ) → ℕ → List ℕ
joined f zero = []
joined f (suc n) = joined f n ++ f n

-- the field of the posting after k others: one blank and the posting right-aligned; blanks where it is absent
unfoldable pub field : List ℕ → ℕ → List ℕ
field ps k = blank ∷ cond (ltb k (length ps)) (column (get_or ps k 0)) no_column

-- the line after i others: the term, on the first line only, five fields, a line feed
unfoldable pub line : ℕ → List ℕ → ℕ → List ℕ
line t ps i = cond (eqb i 0) (column t) no_column ++ joined (λ j. field ps (line_fields * i + j)) line_fields ++ line_feed ∷ []

-- five postings stand on a line, on the last line those that are left; no postings give no lines
unfoldable pub line_count : List ℕ → ℕ
line_count ps = (length ps + 4) / line_fields

unfoldable pub page : ℕ → List ℕ → List ℕ
page t ps = joined (line t ps) (line_count ps)

-- number 11: the memory is shorter than the lines need
unfoldable pub page_number : List ℕ → ℕ → ℕ → ℕ → List ℕ → ℕ
page_number c t a z memory =
    first_of
    ((not (eqb (question_number c t a z) 0), question_number c t a z)
    ∷ (ltb (length memory) (length (page t (found c t a z))), 11)
    ∷ [])

pub record Printed : Type 0 where
  pub number : ℕ
  pub lines : ℕ
  pub memory : List ℕ

unfoldable pub printed : List ℕ → ℕ → ℕ → ℕ → List ℕ → Printed
printed c t a z memory =
    cond (eqb (page_number c t a z memory) 0)
    (record { number = 0; lines = line_count (found c t a z); memory = sets memory 0 (page t (found c t a z)) })
    (record { number = page_number c t a z memory; lines = 0; memory = memory })

-- the number, the count of lines and the memory left are those of a page
pub record PrintedOff (number lines : ℕ) (memory : List ℕ) (d : Printed) : Type 0 where
  pub of_number : number ≡ d.number
  pub of_lines : lines ≡ d.lines
  pub of_memory : memory ≡ d.memory
