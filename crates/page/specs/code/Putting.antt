-- What the code writes, piece by piece.
use Rattle.std.specs.Prelude.{ℕ, ◌+◌, ◌*◌, ◌≡◌, cond, Option, Some, None, List, ◌∷◌, drop, eqb}
use Rattle.std.proofs.lemmas.List.Edits.{sets}
use Rattle.pair.specs.Rank.{Words}
use Rattle.page.specs.Figures.{blank, column, no_column}
use Rattle.page.specs.Page.{line_fields, joined, field, line}

-- the field of what a reader yields
unfoldable pub field_of : Option ℕ → List ℕ
field_of (Some p) = blank ∷ column p
field_of None = blank ∷ no_column

-- what stands before the fields of the line after i others
abbrev pub head_of : ℕ → ℕ → List ℕ
head_of t i = cond (eqb i 0) (column t) no_column

-- the fields of a line, the first of which shows the posting after n others
abbrev pub fields_from : List ℕ → ℕ → ℕ → List ℕ
fields_from ps n k = joined (λ j. field ps (n + j)) k

-- the fields of the first postings that are left are put, and the others are left then
pub record FieldsPut (left then now : List ℕ) : Type 0 where
  pub put : (ps : List ℕ) (n : ℕ) → Words ps → left ≡ drop n ps → now ≡ fields_from ps n line_fields
  pub rest : (ps : List ℕ) (n : ℕ) → left ≡ drop n ps → then ≡ drop (n + line_fields) ps

-- the line after i others is put, and its postings are no longer left
pub record LinePut (t i : ℕ) (left then now : List ℕ) : Type 0 where
  pub put : (ps : List ℕ) → Words ps → left ≡ drop (line_fields * i) ps → now ≡ line t ps i
  pub rest : (ps : List ℕ) → left ≡ drop (line_fields * i) ps → then ≡ drop (line_fields * i + line_fields) ps

-- the first n lines are put
pub record LinesPut (t n : ℕ) (ps l now : List ℕ) : Type 0 where
  pub put : Words ps → now ≡ sets l 0 (joined (line t ps) n)
