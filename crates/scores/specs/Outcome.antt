-- The outcome of a scorekeepers' file: its batch taken through a pass on a fresh card, and the line that is printed of it.
use Rattle.std.specs.Prelude.{ℕ, zero, suc, cond, not, Result, Ok, Err, List, [], ◌∷◌, ◌++◌, replicate, eqb}
use Rattle.refusal.specs.declared.Refusal.{Refusal}
use Rattle.refusal.specs.Refusal.{number}
use Rattle.figures.specs.Figures.{decimal}
use Rattle.card.specs.Layout.{card_length, width_of, block_size, formatted}
use Rattle.update.specs.Step.{remains, step}
use Rattle.update.specs.Pass.{step_limit}
use Rattle.lines.specs.Lines.{tab, line_feed, fault, batch_of}

-- how a file ends: the steps of the pass that finished, or a number
pub data Outcome : Type 0 where
  Finished : (steps : ℕ) → Outcome
  Refused : (number : ℕ) → Outcome

-- the outcome that steps or a number are
abbrev pub ended : Result ℕ ℕ → Outcome
ended (Ok steps) = Finished steps
ended (Err n) = Refused n

-- the outcome that an answer tells
abbrev pub told : Result ℕ Refusal → Outcome
told (Ok steps) = Finished steps
told (Err refusal) = Refused (number refusal)

-- a fresh card, zeros elsewhere, with blocks of 8 words and 6 places
unfoldable pub fresh_card : List ℕ
fresh_card = formatted (replicate (card_length (width_of 1) 8 6) 0) 8 6

-- at most n steps with one batch, after others that were made: up to the one that finishes the pass, or the first refused
unfoldable pub pass_from : ℕ → ℕ → List ℕ → List ℕ → Outcome
pass_from zero made c b = Finished made
pass_from (suc n) made c b =
    cond (not (eqb (step c b).number 0)) (Refused (step c b).number)
    (cond (step c b).finished (Finished (suc made)) (pass_from n (suc made) (step c b).card b))

-- the step limit of a pass with a batch on a card
unfoldable pub steps_most : List ℕ → List ℕ → ℕ
steps_most c b = step_limit (block_size c) (remains c b)

-- the pass, which ends within that limit
unfoldable pub pass : List ℕ → List ℕ → Outcome
pass c b = pass_from (steps_most c b) 0 c b

-- a number of a line, or what the pass gives
unfoldable pub outcome : List ℕ → Outcome
outcome bytes = cond (eqb (fault bytes).number 0) (pass fresh_card (batch_of bytes)) (Refused (fault bytes).number)

-- the letters of a pass that finished and of a number
abbrev pub letter_d : ℕ
letter_d = 68

abbrev pub letter_n : ℕ
letter_n = 78

-- a letter, a tab and a number
unfoldable pub printed_line : ℕ → ℕ → List ℕ
printed_line letter n = letter ∷ tab ∷ decimal n ++ line_feed ∷ []

-- D and the number of steps, or N and the number given
unfoldable pub printed : Outcome → List ℕ
printed (Finished steps) = printed_line letter_d steps
printed (Refused number) = printed_line letter_n number
