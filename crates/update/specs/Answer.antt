-- A step's answer: the paper's values for each write and each refusal.
use Rattle.std.specs.Prelude.{ℕ, ◌≡◌, Bool, false, Result, Ok, Err}
use Rattle.refusal.specs.declared.Refusal.{Refusal}
use Rattle.refusal.specs.Refusal.{number_of}
use Rattle.update.specs.declared.Written.{Written}
use Rattle.update.specs.declared.Written.TheVariants.{Block, MapEntry, Configuration}
use Rattle.update.specs.Step.{Step}

-- which of the three writes it is
abbrev pub write_number : Written → ℕ
write_number Block = 1
write_number MapEntry = 2
write_number (Configuration f d) = 3

-- how many old places it frees
abbrev pub freed_by : Written → ℕ
freed_by Block = 0
freed_by MapEntry = 0
freed_by (Configuration f d) = f

-- it finishes the pass
abbrev pub finished_by : Written → Bool
finished_by Block = false
finished_by MapEntry = false
finished_by (Configuration f d) = d

-- the same of an answer: a refusal wrote nothing
abbrev pub write_of : Result Written Refusal → ℕ
write_of (Ok w) = write_number w
write_of (Err r) = 0

abbrev pub freed_of : Result Written Refusal → ℕ
freed_of (Ok w) = freed_by w
freed_of (Err r) = 0

abbrev pub finished_of : Result Written Refusal → Bool
finished_of (Ok w) = finished_by w
finished_of (Err r) = false

-- it is the answer of a step
pub record IsAnswer (s : Step) (a : Result Written Refusal) : Type 0 where
  pub number : number_of a ≡ s.number
  pub write : write_of a ≡ s.write
  pub freed : freed_of a ≡ s.freed
  pub finished : finished_of a ≡ s.finished
