-- What is left in a posting reader, and what it yields next.
use Rattle.std.specs.Prelude.{ℕ, Option, ◌≡◌, List}
use Rattle.std.specs.Iterator.{YieldsFirst}
use Rattle.reader.specs.declared.PostingReader.{PostingReader}
use Rattle.reader.specs.Reader.{yield_of}
use Rattle.reader.specs.code.Cursor.{left_at, OfCard}

abbrev pub left_in : PostingReader → List ℕ
left_in r = left_at r.card.now r.cursor

-- a reader yields the first of what is left in it and keeps the others, or yields the end where nothing is left; what it yields is a word of the
-- card, and its number and its card stay
pub record ReaderStep (r : PostingReader) (y : Option ℕ) (then : PostingReader) : Type 0 where
  pub first : YieldsFirst left_in r y then
  pub word : OfCard r.card.now (yield_of y)
  pub number : then.number ≡ r.number
  pub card : then.card ≡ r.card
