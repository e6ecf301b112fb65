-- Demand 3: after any list of events on a card just formatted, every answer was right and the card keeps to its history.
use Prim.Native.Nat.{ℕ}
use mathlib.Core.Path.{◌≡◌}
use mathlib.Core.List.{List, [], ◌∷◌}
use native.Mathlib.Omega.{arith}
use Rattle.pair.specs.Rank.{Words}
use Rattle.card.specs.Sound.{judged}
use Rattle.card.proofs.Formatted.{formattable}
use Rattle.history.specs.History.{History, Event, after, tells, told, Agrees, Holds, AllOfWords, Demand3}
use Rattle.history.proofs.Answers.{answered}
use Rattle.history.proofs.Events.{keeping_after}
use Rattle.history.proofs.Keeping.{Keeping, itself, keeping_itself, keeping_formatted}

-- A card that keeps to its history agrees with it.
pub agrees : (c : List ℕ) (h : History) → Keeping c h → Agrees c h
agrees c h k = record { sound = k.sound; index = k.index; bound = (k.mark_term, k.mark_position) }

-- From any card that keeps to its history on, the claim holds of every list of events.
pub holds : (c : List ℕ) (h : History) (es : List Event) → Keeping c h → AllOfWords es → Holds c h es
unfolding Holds AllOfWords
holds c h [] k w = agrees c h k
holds c h (e ∷ es) k w = (answered c e h k w.0, holds (after c e) (told (tells c e) h) es (keeping_after c e h k w.0) w.1)

pub demand3 : Demand3
unfolding Demand3
demand3 c b n es wc we e =
    let f = formattable c b n e in
    holds _ _ es (keeping_formatted c b n e wc (omega (arith, f.range.size_high)) (omega (arith, f.range.count_high))) we

-- The same of any sound card and the history that it tells of itself.
pub sound_holds : (c : List ℕ) (es : List Event) → Words c → AllOfWords es → judged c ≡ 0 → Holds c (itself c) es
sound_holds c es wc we s = holds c (itself c) es (keeping_itself c wc s) we
