-- The scorekeepers' file: lines of text, one record a line, and the batch that it makes. A byte is its ASCII number.
use Rattle.std.specs.Prelude.{ℕ, suc, cond, ◌&&◌, not, List, [], ◌∷◌, ◌++◌, map, length, ltb, leb, eqb}
use Rattle.std.proofs.lemmas.List.Edits.{sets}
use Rattle.pair.specs.Tests.{same, first_of}
use Rattle.figures.specs.Figures.{worth, is_number}
use Rattle.batch.specs.Batch.{records_most}
use Rattle.sort.specs.Sort.{laid, key_at, sorted}

abbrev pub tab : ℕ
tab = 9

abbrev pub line_feed : ℕ
line_feed = 10

-- the letters of an addition and of a removal
abbrev pub letter_a : ℕ
letter_a = 65

abbrev pub letter_r : ℕ
letter_r = 82

-- a byte before the first of some lines or fields
unfoldable pub longer : ℕ → List (List ℕ) → List (List ℕ)
longer b [] = (b ∷ []) ∷ []
longer b (l ∷ ls) = (b ∷ l) ∷ ls

-- a line ends at a line feed, which the last line may lack
unfoldable pub lines : List ℕ → List (List ℕ)
lines [] = []
lines (b ∷ bs) = cond (eqb b line_feed) ([] ∷ lines bs) (longer b (lines bs))

-- the fields of a line are parted by tabs
unfoldable pub fields : List ℕ → List (List ℕ)
fields [] = [] ∷ []
fields (b ∷ bs) = cond (eqb b tab) ([] ∷ fields bs) (longer b (fields bs))

-- the record of A, a term and a position, or of R, a term, from and to: its first four words; none where the fields have another form
unfoldable pub record_of : List (List ℕ) → List ℕ
record_of [] = []
record_of (k ∷ []) = []
record_of (k ∷ t ∷ []) = []
record_of (k ∷ t ∷ p ∷ []) =
    cond (same k (letter_a ∷ []) && is_number t && is_number p) (1 ∷ worth 0 t ∷ worth 0 p ∷ worth 0 p ∷ []) []
record_of (k ∷ t ∷ a ∷ z ∷ []) =
    cond (same k (letter_r ∷ []) && is_number t && is_number a && is_number z) (2 ∷ worth 0 t ∷ worth 0 a ∷ worth 0 z ∷ []) []
record_of (k ∷ t ∷ a ∷ z ∷ f ∷ fs) = []

unfoldable pub line_record : List ℕ → List ℕ
line_record l = record_of (fields l)

-- the number of a line after i others: it is of another form, or the lines are more than a batch has records
unfoldable pub line_number : ℕ → List ℕ → ℕ
line_number i l = first_of ((eqb (length (line_record l)) 0, 12) ∷ (leb records_most i, 13) ∷ [])

-- a number, and the line that earned it, counted from 1; both are 0 where there is none
pub record Fault : Type 0 where
  pub number : ℕ
  pub line : ℕ

-- the first line with a number, after i others
unfoldable pub fault_from : ℕ → List (List ℕ) → Fault
fault_from i [] = record { number = 0; line = 0 }
fault_from i (l ∷ ls) =
    cond (eqb (line_number i l) 0) (fault_from (suc i) ls) (record { number = line_number i l; line = suc i })

unfoldable pub fault : List ℕ → Fault
fault bytes = fault_from 0 (lines bytes)

-- records with their numbers behind them, the first of them n
unfoldable pub numbered : ℕ → List (List ℕ) → List (List ℕ)
numbered n [] = []
numbered n (r ∷ rs) = (r ++ n ∷ []) ∷ numbered (suc n) rs

-- the records of the lines, in their order; the number of its line, from 1, is a record's fifth word, its arrival number
unfoldable pub line_records : List ℕ → List (List ℕ)
line_records bytes = numbered 1 (map line_record (lines bytes))

-- the batch: these records sorted by term, then from, which are their second and third word
unfoldable pub batch_of : List ℕ → List ℕ
batch_of bytes = laid (sorted (key_at 1) (line_records bytes))

-- number 10 where fewer words are lent than the batch has, after the numbers of lines
unfoldable pub scores_number : List ℕ → List ℕ → ℕ
scores_number bytes batch =
    first_of
    ((not (eqb (fault bytes).number 0), (fault bytes).number)
    ∷ (ltb (length batch) (length (batch_of bytes)), 10)
    ∷ [])

-- the number, the words of the batch, the line of a number 12 or 13, and the lent words
pub record Scored : Type 0 where
  pub number : ℕ
  pub words : ℕ
  pub line : ℕ
  pub batch : List ℕ

-- the batch in the first lent words; in a refusal nothing changes
unfoldable pub scored : List ℕ → List ℕ → Scored
scored bytes batch =
    cond (eqb (scores_number bytes batch) 0)
    (record { number = 0; words = length (batch_of bytes); line = 0; batch = sets batch 0 (batch_of bytes) })
    (record { number = scores_number bytes batch; words = 0; line = (fault bytes).line; batch = batch })
