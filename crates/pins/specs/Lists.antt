-- What is claimed of lists of events, event by event and with no definition of the claims themselves.
use Rattle.std.specs.Prelude.{ℕ, ◌≤◌, ◌<◌, ◌≡◌, Bool, true, cond, ◌&&◌, ◌||◌, not, List, [], ◌∷◌, ◌++◌, map, length, eqb}
use Rattle.std.proofs.lemmas.List.Edits.{sets}
use Rattle.pair.specs.Rank.{rank, term, position}
use Rattle.pair.specs.Rising.{above, within, rising_from}
use Rattle.block.specs.Block.{goes_on}
use Rattle.card.specs.Layout.{word, live, format_number, formatted}
use Rattle.card.specs.Sound.{judged}
use Rattle.batch.specs.Batch.{updates, applied}
use Rattle.update.specs.Step.{step}
use Rattle.found.specs.Found.{lookup}
use Rattle.history.specs.History.{History, started, landed, torn, Event, stepped, cut, looked, restarted, formats}

-- the words of the events: that they are 32-bit words is all that is asked of a list
unfoldable pub words_of : List Event → List ℕ
words_of [] = []
words_of (stepped b ∷ es) = b ++ words_of es
words_of (cut b ws l ∷ es) = b ++ (ws ++ words_of es)
words_of (looked t a z answer ∷ es) = t ∷ a ∷ z ∷ (answer ++ words_of es)
words_of (restarted ∷ es) = words_of es
words_of (formats b n ∷ es) = b ∷ n ∷ words_of es

-- demand 3, from the card c and the history h on: no answer is 1 to 4, a step finishes where the history has no pair beyond the due block, a lookup gives the
-- history's positions; in the end the card is sound, its index is the history's pairs and its boundary words are the mark
unfoldable pub Right : List ℕ → History → List Event → Type 0
Right c h [] =
    (judged c ≡ 0) × (live c ≡ h.pairs) × (word c 6 ≡ term h.mark) × (word c 7 ≡ position h.mark)
Right c h (stepped b ∷ es) =
    (1 ≤ (step c b).number → 4 < (step c b).number)
    × ((step c b).write ≡ 3 → (step c b).finished ≡ not (goes_on h.size (above h.mark (applied (updates b) h.pairs))))
    × Right (step c b).card (cond (eqb (step c b).write 3) (landed b h) h) es
Right c h (cut b ws l ∷ es) = Right (torn c b ws l) (cond (eqb (step c b).write 3 && l) (landed b h) h) es
Right c h (looked t a z answer ∷ es) =
    (1 ≤ (lookup c t a z answer).number → 4 < (lookup c t a z answer).number)
    × ((lookup c t a z answer).number ≡ 0 →
    let wanted = map position (within (rank t a) (rank t z) h.pairs) in
    ((lookup c t a z answer).answer ≡ sets answer 0 wanted) × ((lookup c t a z answer).count ≡ length wanted) × (rising_from 0 wanted ≡ true))
    × Right c h es
Right c h (restarted ∷ es) = Right c h es
Right c h (formats b n ∷ es) = Right (formatted c b n) (cond (eqb (format_number c b n) 0) (started b) h) es

-- from the card c on, f telling whether a finishing write has landed: where the events lend no batch but b and no call of the formatter is accepted,
-- P holds in the end
unfoldable pub Throughout : List ℕ → (List ℕ → Bool → Type 0) → List ℕ → Bool → List Event → Type 0
Throughout b P c f [] = P c f
Throughout b P c f (stepped x ∷ es) = x ≡ b → Throughout b P (step c x).card (f || (step c x).finished) es
Throughout b P c f (cut x ws l ∷ es) = x ≡ b → Throughout b P (torn c x ws l) (f || ((step c x).finished && l)) es
Throughout b P c f (looked t a z answer ∷ es) = Throughout b P c f es
Throughout b P c f (restarted ∷ es) = Throughout b P c f es
Throughout b P c f (formats x n ∷ es) = (format_number c x n ≡ 0 → ⊥) → Throughout b P (formatted c x n) f es
