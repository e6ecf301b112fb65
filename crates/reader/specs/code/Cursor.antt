-- The posting reader's cursor, and what is yielded at it.
use Rattle.std.specs.Prelude.{ℕ, Option, ◌+◌, ◌≤◌, ◌<◌, ◌≡◌, List, ◌++◌, length, take, drop, get_or}
use Rattle.std.specs.Iterator.{YieldsFirst}
use Rattle.found.specs.declared.walk.Walk.{Walk}
use Rattle.found.specs.code.Walk.{ahead, ReadyWalk}
use Rattle.reader.specs.declared.cursor.Cursor.{Cursor}
use Rattle.reader.specs.Reader.{Yielded, posting, ended, yield_of}

-- what is left at a cursor: the postings of its run, and those ahead of its walk
abbrev pub left_at : List ℕ → Cursor → List ℕ
left_at c k = take k.left (drop k.at c) ++ ahead c k.walk

-- the cursor's run lies in the card, and its walk goes over live blocks
pub record Standing (c : List ℕ) (k : Cursor) : Type 0 where
  pub inside : k.at + k.left ≤ length c
  pub ready : ReadyWalk c k.walk

-- the cursor stands in the card
abbrev pub StandsIn : List ℕ → Cursor → Type 0
StandsIn c k = ∥ Standing c k ∥₁

-- the cursor stands in the card, and these are left there
pub record CursorAt (c : List ℕ) (k : Cursor) (ps : List ℕ) : Type 0 where
  pub stands : StandsIn c k
  pub rest : left_at c k ≡ ps

-- a cursor before the next run of a walk, where what was ahead of the walk is left
pub record NextInHand (c : List ℕ) (w : Walk) (r : Cursor) : Type 0 where
  pub some : 0 < r.left
  pub stands : ReadyWalk c w → StandsIn c r
  pub same : ReadyWalk c w → ahead c w ≡ left_at c r

-- p is a word of the card
pub record WordOf (c : List ℕ) (p : ℕ) : Type 0 where
  pub index : ℕ
  pub below : index < length c
  pub same : get_or c index 0 ≡ p

-- the end, or a word of the card
abbrev pub OfCard : List ℕ → Yielded → Type 0
OfCard c (posting p) = WordOf c p
OfCard c ended = Unit {0}

-- a step at a cursor that stands in the card yields the first of what is left there and leaves the cursor at the others, or yields the end where
-- nothing is left; at any cursor it yields the end or a word of the card
pub record CursorStep (c : List ℕ) (k : Cursor) (y : Option ℕ) (r : Cursor) : Type 0 where
  pub word : OfCard c (yield_of y)
  pub stands : StandsIn c k → StandsIn c r
  pub first : StandsIn c k → YieldsFirst (left_at c) k y r
