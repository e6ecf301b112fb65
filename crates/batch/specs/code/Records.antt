-- The records of a batch as arrays of five words.
use Rattle.std.specs.Prelude.{ℕ, ◌/◌, List, [], ◌∷◌, length, get_or, cond, eqb, Option, Some, None}
use Rattle.std.specs.Simd.{first_chunks}
use Rattle.batch.specs.declared.reading.Kind.{Kind}
use Rattle.batch.specs.declared.reading.Kind.TheVariants.{Adds, Removes, Annuls}
use Rattle.batch.specs.declared.reading.Record.{Record}
use Rattle.batch.specs.Batch.{Update}
use Rattle.batch.specs.code.Search.{update_of}

-- the arrays
abbrev pub records_of : List ℕ → List (List ℕ)
records_of b = first_chunks 5 (length b / 5) b

-- the kind of a number
abbrev pub kind_of : ℕ → Option Kind
kind_of n = cond (eqb n 1) (Some Adds) (cond (eqb n 2) (Some Removes) (cond (eqb n 3) (Some Annuls) None))

-- the record that five words are
abbrev pub record_of : List ℕ → Record
record_of ws = record { kind = get_or ws 0 0; term = get_or ws 1 0; from = get_or ws 2 0; to = get_or ws 3 0; arrival = get_or ws 4 0 }

-- the updates that they are
unfoldable pub updates_of : List (List ℕ) → List Update
updates_of [] = []
updates_of (ws ∷ rs) = update_of (record_of ws) ∷ updates_of rs
