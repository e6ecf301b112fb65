-- What is claimed of the definitions, each as a type that a theorem inhabits.
use Rattle.std.specs.Prelude.{ℕ, ◌+◌, ◌-◌, ◌%◌, ◌≤◌, ◌<◌, ◌≡◌, Bool, true, false, ◌&&◌, ◌||◌, ◌≢◌, ◌⊎◌, List, [], ◌∷◌, ◌++◌, map, eqb, length, take, drop, get_or}
use Rattle.pair.specs.Rank.{rank, Words}
use Rattle.pair.specs.Rising.{above, at_most}
use Rattle.block.specs.Block.{fitting}
use Rattle.card.specs.Layout.{word, place_count, length_of_old, length_of_new, block_size, boundary, old_places, new_places, live, format_number}
use Rattle.card.specs.Sound.{judged}
use Rattle.batch.specs.Batch.{Update, updates, any_update, applied, record_words, batch_number}
use Rattle.span.specs.Span.{write_span}
use Rattle.update.specs.Step.{with_write, remains, step_number, step}
use Rattle.update.specs.Pass.{step_limit, finishes_within, refused_within}
use Rattle.update.specs.Forecast.{finishes_of, forecast, Foretells}
use Rattle.found.specs.Found.{question_number, blocks_read, holders, lookup}
use Rattle.reader.specs.Reader.{posting, ended, yielded, read}
use Rattle.history.specs.History.{Event, stepped, cut, looked, restarted, formats, after, AllOfWords}

-- a pass left uncut and unrefused, with its batch kept, finishes within the step limit
unfoldable pub PassFinishes : Type 0
PassFinishes =
    (c b : List ℕ) → Words c → Words b → judged c ≡ 0 →
    let n = step_limit (block_size c) (remains c b) in
    refused_within n c b ≡ false → finishes_within n c b ≡ true

-- for every card and batch the forecast agrees with the uncut run
unfoldable pub ForecastAgrees : Type 0
ForecastAgrees = (c b : List ℕ) → Words c → Words b → Foretells c b

-- on the card c the event lends no batch but b, and is no accepted call of the formatter
unfoldable pub Lends : List ℕ → List ℕ → Event → Type 0
Lends c b (stepped x) = x ≡ b
Lends c b (cut x ws l) = x ≡ b
Lends c b (looked t a z answer) = Unit {0}
Lends c b restarted = Unit {0}
Lends c b (formats x n) = format_number c x n ≡ 0 → ⊥

-- from the card c on, every event does
unfoldable pub Keeps : List ℕ → List ℕ → List Event → Type 0
Keeps c b [] = Unit {0}
Keeps c b (e ∷ es) = Lends c b e × Keeps (after c e) b es

-- the card that the events leave
unfoldable pub ran : List ℕ → List Event → List ℕ
ran c [] = c
ran c (e ∷ es) = ran (after c e) es

unfoldable pub free_places : List ℕ → ℕ
free_places c = place_count c - (length_of_old c + length_of_new c)

-- with no update at all, number 8 never occurs on a sound card
unfoldable pub EmptyNeverFull : Type 0
EmptyNeverFull = (c : List ℕ) → Words c → judged c ≡ 0 → step_number c [] ≡ 0

-- with removals only, kept throughout, number 8 never occurs if two places were free at the first step
unfoldable pub RemovalsNeverFull : Type 0
RemovalsNeverFull =
    (c b : List ℕ) (es : List Event) → Words c → Words b → AllOfWords es → judged c ≡ 0 → batch_number b ≡ 0 →
    any_update (λ u. eqb u.kind 1) (updates b) ≡ false → 2 ≤ free_places c → Keeps c b es →
    step_number (ran c es) b ≡ 0

-- so an empty batch fits, and removals do where two places are free
unfoldable pub EmptyFits : Type 0
EmptyFits = (c : List ℕ) → Words c → judged c ≡ 0 → finishes_of (forecast c []) ≡ true

unfoldable pub RemovalsFit : Type 0
RemovalsFit =
    (c b : List ℕ) → Words c → Words b → judged c ≡ 0 → batch_number b ≡ 0 →
    any_update (λ u. eqb u.kind 1) (updates b) ≡ false → 2 ≤ free_places c → finishes_of (forecast c b) ≡ true

-- a removal whose from is above its to, in a batch in order: on every card a step is the one without it
unfoldable pub EmptyRangeSameStep : Type 0
EmptyRangeSameStep =
    (c b d : List ℕ) (k t a z n : ℕ) → length b % record_words ≡ 0 → k ≢ 1 → z < a → batch_number (b ++ k ∷ t ∷ a ∷ z ∷ n ∷ d) ≡ 0 →
    step c (b ++ k ∷ t ∷ a ∷ z ∷ n ∷ d) ≡ step c (b ++ d)

-- the event is a configuration write that finishes the pass, and it lands
unfoldable pub finishing : List ℕ → Event → Bool
finishing c (stepped b) = (step c b).finished
finishing c (cut b ws l) = (step c b).finished && l
finishing c (looked t a z answer) = false
finishing c restarted = false
finishing c (formats b n) = false

-- a finishing write lands among the events
unfoldable pub finished : List ℕ → List Event → Bool
finished c [] = false
finished c (e ∷ es) = finishing c e || finished (after c e) es

-- one batch, begun with no pass open and kept: from the first landed finishing write onward the index is the old one with the batch applied
unfoldable pub KeptBatch : Type 0
KeptBatch =
    (c b : List ℕ) (es : List Event) → Words c → Words b → AllOfWords es → judged c ≡ 0 → length_of_new c ≡ 0 → Keeps c b es →
    finished c es ≡ true → live (ran c es) ≡ applied (updates b) (live c)

-- resent right after it, whole or in part, such a batch changes nothing: after every further event that lends no other batch the index is the same
unfoldable pub ResentBatch : Type 0
ResentBatch =
    (c b : List ℕ) (es fs : List Event) → Words c → Words b → AllOfWords (es ++ fs) → judged c ≡ 0 → length_of_new c ≡ 0 → Keeps c b (es ++ fs) →
    finished c es ≡ true → live (ran c (es ++ fs)) ≡ live (ran c es)

-- the blocks read are at most two more than the blocks that hold a live posting in range
unfoldable pub BlocksReadBound : Type 0
BlocksReadBound =
    (c : List ℕ) (t a z : ℕ) → question_number c t a z ≡ 0 →
    blocks_read c t a z
    ≤ holders c 0 (rank t a) (rank t z) (new_places c) + holders c (boundary c) (rank t a) (rank t z) (old_places c) + 2

-- from one set to another the batch has been applied to the pairs above m up to k, and to no other pair
pub record Moved (us : List Update) (m k : ℕ) (before after : List ℕ) : Type 0 where
  pub below : at_most m after ≡ at_most m before
  pub past : above m (at_most k after) ≡ above m (at_most k (applied us before))
  pub beyond : above k after ≡ above k before

-- the same with all pairs above m
pub record MovedAll (us : List Update) (m : ℕ) (before after : List ℕ) : Type 0 where
  pub below : at_most m after ≡ at_most m before
  pub past : above m after ≡ above m (applied us before)

-- each configuration write applies the batch to the pairs it moves past and to no other pair: those above the boundary before it, up to the boundary it sets, or all of them when it finishes
unfoldable pub MovesPast : Type 0
MovesPast =
    (c b : List ℕ) → Words c → Words b → judged c ≡ 0 → (step c b).write ≡ 3 →
    ((step c b).finished ≡ false → Moved (updates b) (boundary c) (boundary (step c b).card) (live c) (live (step c b).card))
    × ((step c b).finished ≡ true → MovedAll (updates b) (boundary c) (live c) (live (step c b).card))

-- what remains after a configuration write that does not finish is what remained beyond the due block
unfoldable pub RemainsNext : Type 0
RemainsNext =
    (c b : List ℕ) → Words c → Words b → (step c b).write ≡ 3 → (step c b).finished ≡ false →
    remains (step c b).card b ≡ drop (fitting (block_size c) 0 (remains c b)) (remains c b)

-- a step leaves the card with its write made; there the write that it names stands where the step made it, and no other word has changed
unfoldable pub WriteStands : Type 0
WriteStands =
    (c b : List ℕ) → Words c → Words b →
    let s = step c b in
    let p = write_span s.card s.write in
    (s.card ≡ with_write c s.made)
    × (s.number ≡ 0 → (p.number ≡ 0) × (p.start ≡ s.made.start) × (p.count ≡ length s.made.words))
    × (length s.card ≡ length c)
    × ((i : ℕ) → (i < p.start) ⊎ (p.start + p.count ≤ i) → word s.card i ≡ word c i)

-- what the posting reader yields, one posting after another, are the positions that the lookup gives, then the end for ever
unfoldable pub ReaderYieldsLookup : Type 0
ReaderYieldsLookup =
    (c : List ℕ) (t a z : ℕ) (answer : List ℕ) (n : ℕ) → (lookup c t a z answer).number ≡ 0 →
    yielded c t a z n ≡ get_or (map posting (take (lookup c t a z answer).count (lookup c t a z answer).answer)) n ended

-- a reading with words enough gives as many positions as the lookup and leaves the answer words as the lookup does
unfoldable pub ReadingIsLookup : Type 0
ReadingIsLookup =
    (c : List ℕ) (t a z : ℕ) (answer : List ℕ) → (lookup c t a z answer).number ≡ 0 →
    ((read c t a z answer).count ≡ (lookup c t a z answer).count) × ((read c t a z answer).answer ≡ (lookup c t a z answer).answer)
