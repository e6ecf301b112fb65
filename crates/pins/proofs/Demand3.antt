-- Demand 3, written out.
use Prim.Native.Nat.{ℕ, ◌≤◌, ◌<◌}
use mathlib.Core.Path.{◌≡◌, refl}
use mathlib.Core.Bool.{Bool, true, false}
use mathlib.Core.List.{List, [], ◌∷◌, ◌++◌}
use lib.ListN.{length}
use lib.Seq.{take_at, drop_at}
use lib.Dec.{leb}
use borrow.Author.Tests.{le-leb, leb-false}
use Rattle.pair.specs.Rank.{Words}
use Rattle.pair.proofs.Tests.{and_both, contradiction}
use Rattle.pair.proofs.Words.{words_take, words_drop}
use Rattle.card.specs.Layout.{format_number, formatted}
use Rattle.history.specs.History.{History, started, to_write, Event, stepped, cut, looked, restarted, formats, after, tells, told, Admitted, Answered, Holds, OfWords, AllOfWords, Demand3}
use Rattle.history.proofs.Events.{told_where}
use Rattle.history.proofs.Demand3.{demand3}
use Rattle.pins.specs.Lists.{words_of, Right}

-- both parts of a list of 32-bit words
first : (xs ys : List ℕ) → Words (xs ++ ys) → Words xs
first xs ys w = rw (take_at xs ys (length xs) refl) at (words_take (length xs) (xs ++ ys) w)

rest : (xs ys : List ℕ) → Words (xs ++ ys) → Words ys
rest xs ys w = rw (drop_at xs ys (length xs) refl) at (words_drop (length xs) (xs ++ ys) w)

-- what the claims ask of a list follows from its words
pub given : (es : List Event) → Words (words_of es) → AllOfWords es
unfolding Words words_of OfWords AllOfWords
given [] w = tt
given (stepped b ∷ es) w = (first b (words_of es) w, given es (rest b (words_of es) w))
given (cut b ws l ∷ es) w =
    let r = rest b (ws ++ words_of es) w in
    ((first b (ws ++ words_of es) w, first ws (words_of es) r), given es (rest ws (words_of es) r))
given (looked t a z answer ∷ es) w =
    let r = words_drop 3 (t ∷ a ∷ z ∷ (answer ++ words_of es)) w in
    ((w 0, w 1, w 2, first answer (words_of es) r), given es (rest answer (words_of es) r))
given (restarted ∷ es) w = (tt, given es w)
given (formats b n ∷ es) w = ((w 0, w 1), given es (words_drop 2 (b ∷ n ∷ words_of es) w))

-- no number from 1 to 4
admitted : (n : ℕ) → Admitted n → 1 ≤ n → 4 < n
unfolding Admitted
admitted n a low = go (leb n 4) refl
  where
    go : (t : Bool) → leb n 4 ≡ t → 4 < n
    go true e = contradiction _ (and_both _ _ (le-leb 1 n low) e) a
    go false e = leb-false n 4 e

-- what demand 3 says of a list, event by event
right : (es : List Event) (c : List ℕ) (h : History) → Holds c h es → Right c h es
unfolding Right Holds Answered after tells told to_write
right [] c h a = (a.sound, a.index, a.bound.0, a.bound.1)
right (stepped b ∷ es) c h a = (admitted _ a.0.0, a.0.1, right es _ _ (rw told_where at a.1))
right (cut b ws l ∷ es) c h a = right es _ _ (rw told_where at a.1)
right (looked t p z answer ∷ es) c h a = (admitted _ a.0.0, a.0.1, right es c h a.1)
right (restarted ∷ es) c h a = right es c h a.1
right (formats b n ∷ es) c h a = right es _ _ (rw told_where at a.1)

-- after any list of events on a card that the formatter has just accepted every answer was right, and the card keeps to its history
pub card_keeps_to_history :
    (c : List ℕ) (b n : ℕ) (es : List Event) → Words c → Words (words_of es) → format_number c b n ≡ 0 →
    Right (formatted c b n) (record { size = b; pairs = []; mark = 0 }) es
unfolding Demand3 started
card_keeps_to_history c b n es w g e = right es (formatted c b n) (started b) (demand3 c b n es w (given es g) e)
