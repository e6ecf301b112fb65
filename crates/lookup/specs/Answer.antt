-- What a lookup and a run view answer, in the paper's numbers.
use Rattle.std.specs.Prelude.{ℕ, ◌≡◌, Result, Ok, Err, List}
use Rattle.refusal.specs.declared.Refusal.{Refusal}
use Rattle.refusal.specs.Refusal.{number_of}
use Rattle.wanted.specs.declared.Part.{Part}
use Rattle.lookup.specs.declared.Found.{Found}
use Rattle.found.specs.Found as found

-- how many positions were found and how many blocks were read, 0 where the lookup is refused
abbrev pub count_of : Result Found Refusal → ℕ
count_of (Ok f) = f.count
count_of (Err refusal) = 0

abbrev pub blocks_read_of : Result Found Refusal → ℕ
blocks_read_of (Ok f) = f.blocks
blocks_read_of (Err refusal) = 0

-- the answer of the code, and the answer words that it leaves, are those of a lookup
pub record Answered (l : found.Lookup) (result : Result Found Refusal) (answer : List ℕ) : Type 0 where
  pub of_number : number_of result ≡ l.number
  pub of_count : count_of result ≡ l.count
  pub of_blocks : blocks_read_of result ≡ l.blocks
  pub of_answer : answer ≡ l.answer

-- the run view's part of the card, the empty one where it is refused
abbrev pub part_of : Result Part Refusal → Part
part_of (Ok part) = part
part_of (Err refusal) = record { start = 0; len = 0 }
