-- Will it fit: what an uncut run of a batch comes to, told from card and batch.
use Rattle.std.specs.Prelude.{ℕ, zero, suc, max, ◌+◌, ◌-◌, ◌≤◌, ◌<◌, ◌≡◌, Bool, true, false, cond, not, Result, Ok, Err, List, [], ◌∷◌, drop, leb, eqb}
use Rattle.pair.specs.Tests.{first_of}
use Rattle.block.specs.Block.{fitting}
use Rattle.card.specs.Layout.{block_size, place_count, length_of_old, length_of_new}
use Rattle.card.specs.Sound.{judged}
use Rattle.batch.specs.Batch.{batch_number}
use Rattle.refusal.specs.declared.Refusal.{Refusal}
use Rattle.refusal.specs.Refusal.{number}
use Rattle.update.specs.declared.forecast.Outlook.{Outlook}
use Rattle.update.specs.declared.forecast.Outlook.TheVariants as code
use Rattle.update.specs.Step.{remains, freed, step}
use Rattle.update.specs.Pass.{blocks, limit_for, step_limit, Run, configurations, uncut}

-- what a forecast says: the number of a refusal, or how many blocks what remains fills and the step limit, where the pass finishes; where it stops
-- with number 8, also after how many configuration writes
pub data ForecastAnswer : Type 0 where
  Refused : ℕ → ForecastAnswer
  Finishes : ℕ → ℕ → ForecastAnswer
  Stops : ℕ → ℕ → ℕ → ForecastAnswer

-- what the code answers says one of these
abbrev pub told_by : Outlook → ForecastAnswer
told_by (code.Finishes g l) = Finishes g l
told_by (code.Stops g l w) = Stops g l w

abbrev pub forecast_of : Result Outlook Refusal → ForecastAnswer
forecast_of (Ok o) = told_by o
forecast_of (Err r) = Refused (number r)

-- the paper's values for each case
abbrev pub number_of : ForecastAnswer → ℕ
number_of (Refused n) = n
number_of (Finishes g l) = 0
number_of (Stops g l w) = 0

-- G
abbrev pub blocks_of : ForecastAnswer → ℕ
blocks_of (Refused n) = 0
blocks_of (Finishes g l) = g
blocks_of (Stops g l w) = g

-- the step limit
abbrev pub limit_of : ForecastAnswer → ℕ
limit_of (Refused n) = 0
limit_of (Finishes g l) = l
limit_of (Stops g l w) = l

abbrev pub finishes_of : ForecastAnswer → Bool
finishes_of (Refused n) = false
finishes_of (Finishes g l) = true
finishes_of (Stops g l w) = false

-- the configuration writes before number 8
abbrev pub writes_of : ForecastAnswer → ℕ
writes_of (Refused n) = 0
writes_of (Finishes g l) = 0
writes_of (Stops g l w) = w

-- how many of n configuration writes, one for each block that r fills, leave a place free, up to the first that does not; m places are new
unfoldable pub free_writes : List ℕ → ℕ → ℕ → List ℕ → ℕ
free_writes c zero m r = 0
free_writes c (suc n) m r =
    cond (leb (place_count c) (length_of_old c - freed c r + suc m)) 0 (suc (free_writes c n (suc m) (drop (fitting (block_size c) 0 r) r)))

-- where all do the pass finishes
unfoldable pub foreseen : ℕ → ℕ → ℕ → ForecastAnswer
foreseen g l w = cond (eqb w g) (Finishes g l) (Stops g l w)

-- where r remains
unfoldable pub outlook : List ℕ → List ℕ → ForecastAnswer
outlook c r =
    let g = blocks (block_size c) r in
    foreseen g (step_limit (block_size c) r) (free_writes c g (length_of_new c) r)

unfoldable pub forecast_number : List ℕ → List ℕ → ℕ
forecast_number c b =
    first_of ((not (eqb (judged c) 0), judged c) ∷ (not (eqb (batch_number b) 0), batch_number b) ∷ [])

unfoldable pub forecast : List ℕ → List ℕ → ForecastAnswer
forecast c b = cond (eqb (forecast_number c b) 0) (outlook c (remains c b)) (Refused (forecast_number c b))

-- what the run comes to that a forecast foretells; a pass that finishes has a configuration write for each block, or one
unfoldable pub foretold : ForecastAnswer → Run
foretold (Refused n) = record { number = n; finished = false; writes = 0 }
foretold (Finishes g l) = record { number = 0; finished = true; writes = max 1 g }
foretold (Stops g l w) = record { number = 8; finished = false; writes = w }

-- the forecast after a step that made w configuration writes, 1 or 0, and did not finish the pass
pub record AfterStep (w : ℕ) (before after : ForecastAnswer) : Type 0 where
  pub number : number_of after ≡ 0
  pub finishes : finishes_of after ≡ finishes_of before
  pub blocks : blocks_of after + w ≡ blocks_of before
  pub limit : limit_of after ≡ limit_for (blocks_of after)
  pub writes : writes_of after + cond (finishes_of before) 0 w ≡ writes_of before

-- the forecast agrees with the uncut run: as many steps as the limit, or more, come to what it foretells, and so does every forecast on the way
pub record Foretells (c b : List ℕ) : Type 0 where
  pub run : (n : ℕ) → 0 < n → limit_of (forecast c b) ≤ n → uncut n c b ≡ foretold (forecast c b)
  pub next : (step c b).number ≡ 0 → (step c b).finished ≡ false → AfterStep (configurations (step c b)) (forecast c b) (forecast (step c b).card b)
