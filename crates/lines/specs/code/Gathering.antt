-- What the code's parts find in the bytes.
use Rattle.std.specs.Prelude.{ℕ, ◌≤◌, ◌≡◌, cond, Option, Some, None, Result, Ok, Err, List, [], ◌∷◌, length, eqb}
use Rattle.std.proofs.lemmas.List.Edits.{sets}
use Rattle.refusal.specs.Refusal.{number}
use Rattle.batch.specs.Batch.{records_most}
use Rattle.sort.specs.Sort.{laid}
use Rattle.lines.specs.declared.line.Kind.{Kind}
use Rattle.lines.specs.declared.line.Kind.TheVariants.{Adds, Removes}
use Rattle.lines.specs.declared.line.Record.{Record}
use Rattle.lines.specs.declared.Fault.{Fault}
use Rattle.lines.specs.Lines.{letter_a, letter_r, lines, fault, line_records, Scored}

-- the first word of a record of a kind
abbrev pub kind_number : Kind → ℕ
kind_number Adds = 1
kind_number Removes = 2

-- the kind of a first field
unfoldable pub kind_of : List ℕ → Option Kind
kind_of [] = None
kind_of (b ∷ []) = cond (eqb b letter_a) (Some Adds) (cond (eqb b letter_r) (Some Removes) None)
kind_of (b ∷ c ∷ bs) = None

-- the words of a record, none where there is none
abbrev pub words_of : Option Record → List ℕ
words_of None = []
words_of (Some r) = kind_number r.kind ∷ r.term ∷ r.from ∷ r.to ∷ []

-- the fault of a file
pub record HasFault (bytes : List ℕ) (f : Fault) : Type 0 where
  pub of_number : number f.refusal ≡ (fault bytes).number
  pub of_line : f.line ≡ (fault bytes).line

-- without a fault, the records of count lines stand in the memory
pub record Gathers (bytes l : List ℕ) (count : ℕ) (now : List ℕ) : Type 0 where
  pub faultless : (fault bytes).number ≡ 0
  pub stand : now ≡ sets l 0 (laid (line_records bytes))
  pub many : count ≡ length (lines bytes)
  pub few : count ≤ records_most

-- what the definition says of an answer and the lent words
abbrev pub answered : Result ℕ Fault → List ℕ → Scored
answered (Ok words) batch = record { number = 0; words = words; line = 0; batch = batch }
answered (Err f) batch = record { number = number f.refusal; words = 0; line = f.line; batch = batch }
