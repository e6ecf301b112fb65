-- Every answer is right: no number from 1 to 4, a step finished exactly where its history says so, a lookup gave the history's positions.
use Prim.Native.Nat.{ℕ, ◌<◌}
use mathlib.Core.Path.{◌≡◌, refl, sym, ◌∙◌, ap}
use mathlib.Core.Bool.{Bool, true, false, not}
use mathlib.Core.List.{List, map}
use native.Mathlib.Omega.{arith}
use lib.ListN.{length}
use lib.Seq.{sets}
use lib.Dec.{eqb}
use borrow.Author.Tests.{eqb-true}
use Rattle.pair.specs.Rank.{rank, position}
use Rattle.pair.specs.Rising.{within, rising_from}
use Rattle.pair.proofs.FirstOf.{first_of_among}
use Rattle.block.specs.Block.{goes_on}
use Rattle.card.specs.Layout.{live}
use Rattle.card.specs.Sound.{judged}
use Rattle.card.proofs.Facts.{facts}
use Rattle.card.proofs.Live.{live_rising}
use Rattle.batch.specs.Batch.{batch_number}
use Rattle.update.specs.Step.{step_number, taken, refused, step}
use Rattle.update.proofs.Steps.{step_taken, step_refused, step_number_law}
use Rattle.found.specs.Found.{found, question_number, lookup_number, lookup}
use Rattle.found.proofs.Answers.{lookup_asked, lookup_found, lookup_number_law}
use Rattle.found.proofs.Positions.{range_rises}
use Rattle.history.specs.History.{History, to_write, Event, stepped, cut, looked, restarted, formats, Admitted, Answered, OfWords}
use Rattle.history.proofs.Keeping.{Keeping, keeping_remains}

batch_admitted : (b : List ℕ) → Admitted (batch_number b)
unfolding batch_number Admitted
batch_admitted b = first_of_among Admitted refl _ (refl, (refl, (refl, (refl, (refl, tt)))))

-- No step on a sound card gets 1 to 4.
pub step_admitted : (c b : List ℕ) → judged c ≡ 0 → Admitted (step c b).number
unfolding step_number Admitted
step_admitted c b s = rw (step_number_law c b) (first_of_among Admitted refl _ (rw s, (batch_admitted b, (refl, tt))))

-- Nor does a lookup.
pub lookup_admitted : (c : List ℕ) (t a z : ℕ) (answer : List ℕ) → judged c ≡ 0 → Admitted (lookup c t a z answer).number
unfolding lookup_number question_number Admitted
lookup_admitted c t a z answer s =
    rw (lookup_number_law c t a z answer) (first_of_among Admitted refl _ (first_of_among Admitted refl _ (rw s, (refl, tt)), (refl, tt)))

-- A step that made the third write finished exactly where the history does not go on.
pub step_finishes :
    (c b : List ℕ) (h : History) → Keeping c h → (step c b).write ≡ 3 → (step c b).finished ≡ not (goes_on h.size (to_write b h))
unfolding taken refused
step_finishes c b h k = go (eqb (step_number c b) 0) refl
  where
    go : (t : Bool) → eqb (step_number c b) 0 ≡ t → (step c b).write ≡ 3 → (step c b).finished ≡ not (goes_on h.size (to_write b h))
    go true e = rw (step_taken c b (eqb-true (step_number c b) 0 e)) (λ w. rw (w, keeping_remains c b h k, k.size))
    go false e = rw (step_refused c b e) (λ w. absurd (omega arith))

-- A lookup that is not refused gave the positions of its term in the history, rising, and their number.
pub lookup_gives :
    (c : List ℕ) (t a z : ℕ) (answer : List ℕ) (h : History) → Keeping c h → z < 4294967296 → (lookup c t a z answer).number ≡ 0 →
    let wanted = map position (within (rank t a) (rank t z) h.pairs) in
    ((lookup c t a z answer).answer ≡ sets answer 0 wanted) × ((lookup c t a z answer).count ≡ length wanted) × (rising_from 0 wanted ≡ true)
unfolding found
lookup_gives c t a z answer h k hz e =
    let n : lookup_number c t a z answer ≡ 0 = sym (lookup_number_law c t a z answer) ∙ e in
    let gives = lookup_found c t a z answer n in
    let same : found c t a z ≡ map position (within (rank t a) (rank t z) h.pairs) = ap (λ s. map position (within (rank t a) (rank t z) s)) k.index in (
      ap (λ l. l.answer) gives ∙ ap (sets answer 0) same,
      ap (λ l. l.count) gives ∙ ap length same,
      rw k.index at (range_rises t a z (live c) (lookup_asked c t a z answer n).from_low hz (live_rising c (facts c k.sound))),
    )

-- Every answer is right.
pub answered : (c : List ℕ) (e : Event) (h : History) → Keeping c h → OfWords e → Answered c e h
unfolding Answered OfWords
answered c (stepped b) h k w = (step_admitted c b k.sound, step_finishes c b h k)
answered c (cut b ws l) h k w = tt
answered c (looked t a z answer) h k w = (lookup_admitted c t a z answer k.sound, lookup_gives c t a z answer h k w.2)
answered c restarted h k w = tt
answered c (formats b n) h k w = tt
