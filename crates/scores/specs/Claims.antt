-- What is claimed of an outcome, each as a type that a theorem inhabits.
use Rattle.std.specs.Prelude.{ℕ, ◌+◌, ◌≡◌, List, take}
use Rattle.pair.specs.Rank.{Words}
use Rattle.card.specs.Sound.{judged}
use Rattle.lines.specs.Claims.{settling_bytes}
use Rattle.scores.specs.Outcome.{pass_from, steps_most, pass, outcome}

-- the outcome of a file is that of its beginning
unfoldable pub OutcomeSettled : Type 0
OutcomeSettled = (bytes : List ℕ) → outcome bytes ≡ outcome (take settling_bytes bytes)

-- a pass on a sound card ends within the step limit: steps beyond it change nothing
unfoldable pub PassEnds : Type 0
PassEnds = (c b : List ℕ) (k : ℕ) → Words c → Words b → judged c ≡ 0 → pass_from (steps_most c b + k) 0 c b ≡ pass c b
