-- What the posting reader yields, and a reading: the first of it in answer words.
use Rattle.std.specs.Prelude.{ℕ, Option, Some, None, ◌≡◌, cond, List, [], map, length, take, get_or, eqb}
use Rattle.std.proofs.lemmas.List.Edits.{sets}
use Rattle.found.specs.Found.{found, question_number}

-- all that the posting reader yields: what is found, and nothing where the question is refused
unfoldable pub all_yielded : List ℕ → ℕ → ℕ → ℕ → List ℕ
all_yielded c t a z = cond (eqb (question_number c t a z) 0) (found c t a z) []

-- what it yields at a time: a posting, or the end
pub data Yielded : Type 0 where
  posting : ℕ → Yielded
  ended : Yielded

-- the yield after n others: the postings one after another, then the end for ever
unfoldable pub yielded : List ℕ → ℕ → ℕ → ℕ → ℕ → Yielded
yielded c t a z n = get_or (map posting (all_yielded c t a z)) n ended

-- a reading: the first postings that a reader yields, as many as there are answer words
pub record Read : Type 0 where
  pub number : ℕ
  pub count : ℕ
  pub answer : List ℕ

unfoldable pub read : List ℕ → ℕ → ℕ → ℕ → List ℕ → Read
read c t a z answer =
    let first = take (length answer) (all_yielded c t a z) in
    record { number = question_number c t a z; count = length first; answer = sets answer 0 first }

-- the yield that each case of the answer stands for
abbrev pub yield_of : Option ℕ → Yielded
yield_of (Some p) = posting p
yield_of None = ended

-- the number, the count and the answer words left are those of a reading
pub record ReadOff (number count : ℕ) (answer : List ℕ) (d : Read) : Type 0 where
  pub of_number : number ≡ d.number
  pub of_count : count ≡ d.count
  pub of_answer : answer ≡ d.answer
