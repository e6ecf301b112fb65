-- The answers of the C functions: flat numbers.
use Rattle.std.specs.Prelude.{ℕ, ◌≡◌, Bool, cond, List, Result}
use Rattle.refusal.specs.declared.Refusal.{Refusal}
use Rattle.refusal.specs.Refusal.{number_of}
use Rattle.update.specs.Step.{Step}
use Rattle.update.specs.Forecast as forecast
use Rattle.update.specs.Forecast.{ForecastAnswer, blocks_of, limit_of, finishes_of, writes_of}
use Rattle.span.specs.Span.{WriteSpan}
use Rattle.lookup.specs.declared.Found.{Found}
use Rattle.lookup.specs.Answer.{count_of, blocks_read_of}
use Rattle.found.specs.Found.{Lookup}
use Rattle.page.specs.Page.{Printed}
use Rattle.lines.specs.Lines.{Scored}

abbrev pub flag : Bool → ℕ
flag b = cond b 1 0

-- the reply, the numbers filled in and the card left are those of a step
pub record Stepped (number write freed finished : ℕ) (card : List ℕ) (s : Step) : Type 0 where
  pub of_number : number ≡ s.number
  pub of_write : write ≡ s.write
  pub of_freed : freed ≡ s.freed
  pub of_finished : finished ≡ flag s.finished
  pub of_card : card ≡ s.card

-- the reply and the numbers filled in are those of a forecast
pub record Foretold (number blocks limit finishes writes : ℕ) (f : ForecastAnswer) : Type 0 where
  pub of_number : number ≡ forecast.number_of f
  pub of_blocks : blocks ≡ blocks_of f
  pub of_limit : limit ≡ limit_of f
  pub of_finishes : finishes ≡ flag (finishes_of f)
  pub of_writes : writes ≡ writes_of f

-- the reply and the numbers filled in are those of where a write stands
pub record Spanned (number start count : ℕ) (s : WriteSpan) : Type 0 where
  pub of_number : number ≡ s.number
  pub of_start : start ≡ s.start
  pub of_count : count ≡ s.count

-- the reply and the numbers filled in are those of a lookup's answer
pub record Filled (number found blocks : ℕ) (answer : Result Found Refusal) : Type 0 where
  pub of_number : number ≡ number_of answer
  pub of_found : found ≡ count_of answer
  pub of_blocks : blocks ≡ blocks_read_of answer

-- the reply, the numbers filled in and the answer words left are those of a lookup
pub record LookedUp (number found blocks : ℕ) (answer : List ℕ) (l : Lookup) : Type 0 where
  pub of_number : number ≡ l.number
  pub of_found : found ≡ l.count
  pub of_blocks : blocks ≡ l.blocks
  pub of_answer : answer ≡ l.answer

-- the reply, the number filled in and the memory left are those of a page
pub record Paged (number lines : ℕ) (memory : List ℕ) (p : Printed) : Type 0 where
  pub of_number : number ≡ p.number
  pub of_lines : lines ≡ p.lines
  pub of_memory : memory ≡ p.memory

-- the reply, the numbers filled in and the batch words left are those of a scorekeepers' file
pub record ReadScores (number words line : ℕ) (batch : List ℕ) (s : Scored) : Type 0 where
  pub of_number : number ≡ s.number
  pub of_words : words ≡ s.words
  pub of_line : line ≡ s.line
  pub of_batch : batch ≡ s.batch
