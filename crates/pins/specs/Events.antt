-- Lists of events on a small card, and what each event meets there.
use Rattle.std.specs.Prelude.{ℕ, true, false, List, [], ◌∷◌, ◌++◌, replicate}
use Rattle.card.specs.Layout.{format_number, formatted}
use Rattle.update.specs.Step.{step}
use Rattle.found.specs.Found.{lookup}
use Rattle.history.specs.History.{Event, stepped, cut, looked, restarted, formats, after}
use Rattle.history.specs.Cases.{three}

-- 28 words for two places of 8 words, and the card that the formatter makes of them
abbrev pub blank : List ℕ
blank = replicate 28 0

abbrev pub card : List ℕ
card = formatted blank 8 2

-- a list that lends no batch but P1's: each of the three writes cut and then made, the third by a cut that lands; a lookup that finds, a refused one,
-- a restart, a refused call of the formatter
abbrev pub keeps_three : List Event
keeps_three =
    cut three (9 ∷ 9 ∷ []) false
    ∷ stepped three
    ∷ cut three (9 ∷ []) false
    ∷ stepped three
    ∷ cut three [] false
    ∷ cut three [] true
    ∷ looked 5 1 9 (0 ∷ 0 ∷ [])
    ∷ looked 0 1 9 []
    ∷ restarted
    ∷ formats 4 2
    ∷ []

-- the same and the kinds that are left: a refused step, an accepted call of the formatter, a step that makes the third write
abbrev pub every_kind : List Event
every_kind = keeps_three ++ stepped (1 ∷ []) ∷ formats 8 2 ∷ stepped three ∷ []

-- what an event meets: the write of a step, cut or not, and the number of a call
unfoldable pub met : List ℕ → Event → ℕ × ℕ
met c (stepped b) = ((step c b).write, (step c b).number)
met c (cut b ws l) = ((step c b).write, (step c b).number)
met c (looked t a z answer) = (0, (lookup c t a z answer).number)
met c restarted = (0, 0)
met c (formats b n) = (0, format_number c b n)

unfoldable pub meets : List ℕ → List Event → List (ℕ × ℕ)
meets c [] = []
meets c (e ∷ es) = met c e ∷ meets (after c e) es
