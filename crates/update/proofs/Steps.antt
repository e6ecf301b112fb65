-- A step taken and a step refused.
use Prim.Native.Nat.{ℕ}
use mathlib.Core.Path.{◌≡◌, refl, sym, ◌∙◌, ap}
use mathlib.Core.Bool.{Bool, true, false, cond, not}
use mathlib.Core.List.{List, [], ◌∷◌}
use lib.Dec.{eqb}
use borrow.Author.Tests.{eqb-true, ne_eqb}
use Rattle.pair.specs.Tests.{first_of}
use Rattle.pair.proofs.FirstOf.{passed, handed_on, first_of_early}
use Rattle.batch.specs.Batch.{batch_number}
use Rattle.card.specs.declared.layout.Configuration.{Configuration}
use Rattle.card.specs.Layout.{block_size}
use Rattle.card.specs.Sound.{judged}
use Rattle.card.specs.code.Configuration.{ConfigurationOf}
use Rattle.card.proofs.Facts.{facts}
use Rattle.std.proofs.Common.{Result, Err, ◌≤◌, arith}
use Rattle.std.specs.Result.{IsErrAnd}
use Rattle.std.proofs.lemmas.Result.{err_from_is_err_and}
use Rattle.refusal.specs.declared.Refusal.{Refusal}
use Rattle.refusal.specs.Refusal.{number}
use Rattle.refusal.proofs.Numbers.{number_positive}
use Rattle.update.specs.declared.Written.{Written}
use Rattle.update.specs.Answer.{IsAnswer}
use Rattle.update.specs.Forecast.{forecast_number}
use Rattle.update.specs.Step.{with_write, remains, crowded, next_write, the_write, step_number, Step, taken, refused, step}
use Rattle.update.specs.code.Plan.{step_with}

-- what a step that is not refused was given
pub record Accepted (c b : List ℕ) : Type 0 where
  pub sound : judged c ≡ 0
  pub in_order : batch_number b ≡ 0
  pub free : crowded c (remains c b) ≡ false

pub accepted : (c b : List ℕ) → step_number c b ≡ 0 → Accepted c b
unfolding step_number
accepted c b e =
    let h = handed_on _ _ e in
    let i = handed_on _ _ h.1 in
    let j = passed _ _ _ i.1 in
    record { sound = h.0; in_order = i.0; free = j.0 }

pub accepting : (c b : List ℕ) → Accepted c b → step_number c b ≡ 0
unfolding step_number first_of
accepting c b a = rw (a.sound, a.in_order, a.free)

-- A step that is not refused makes the next write.
pub step_taken : (c b : List ℕ) → step_number c b ≡ 0 → step c b ≡ taken c (remains c b) (next_write c (remains c b))
unfolding step
step_taken c b e = rw e

-- A refused step does nothing.
pub step_refused :
    (c b : List ℕ) → eqb (step_number c b) 0 ≡ false →
    step c b ≡ refused c (step_number c b)
unfolding step
step_refused c b e = rw e

-- Its number is the step's number, refused or not.
pub step_number_law : (c b : List ℕ) → (step c b).number ≡ step_number c b
unfolding taken refused
step_number_law c b = go (eqb (step_number c b) 0) refl
  where
    go : (t : Bool) → eqb (step_number c b) 0 ≡ t → (step c b).number ≡ step_number c b
    go true e = let z = eqb-true (step_number c b) 0 e in ap (λ s. s.number) (step_taken c b z) ∙ sym z
    go false e = ap (λ s. s.number) (step_refused c b e)

-- On a sound card with a batch in order it is the step that what remains asks for.
pub step_sound : (c b : List ℕ) → judged c ≡ 0 → batch_number b ≡ 0 → step c b ≡ step_with c (remains c b)
unfolding step step_number first_of step_with
step_sound c b j e = rw (j, e) (go (crowded c (remains c b)))
  where
    go : (t : Bool) →
        cond (eqb (cond t 8 0) 0) (taken c (remains c b) (next_write c (remains c b))) (refused c (cond t 8 0))
        ≡ cond t (refused c 8) (taken c (remains c b) (next_write c (remains c b)))
    go true = refl
    go false = refl

-- Where the card is not sound, or the batch not in order, it is refused with that number.
pub step_judged : (c b : List ℕ) → (judged c ≡ 0 → ⊥) → step c b ≡ refused c (judged c)
unfolding step step_number first_of
step_judged c b n = let e : eqb (judged c) 0 ≡ false = ne_eqb (judged c) 0 n in rw (e, e)

pub step_unordered : (c b : List ℕ) → judged c ≡ 0 → (batch_number b ≡ 0 → ⊥) → step c b ≡ refused c (batch_number b)
unfolding step step_number first_of
step_unordered c b j n = let e : eqb (batch_number b) 0 ≡ false = ne_eqb (batch_number b) 0 n in rw (j, e, e)

pub number_card : (c b : List ℕ) (r : Refusal) → number r ≡ judged c → number r ≡ forecast_number c b
unfolding forecast_number first_of
number_card c b r e = rw (← e, ne_eqb (number r) 0 (λ z. omega (arith, number_positive r)))

pub number_batch : (c b : List ℕ) → 0 ≡ judged c → batch_number b ≡ forecast_number c b
unfolding forecast_number first_of
number_batch c b e = rw (← e) (go (eqb (batch_number b) 0) refl)
  where
    go : (t : Bool) → eqb (batch_number b) 0 ≡ t → batch_number b ≡ cond (not t) (batch_number b) 0
    go true e = eqb-true _ _ e
    go false e = refl

pub step_checked : (c b : List ℕ) (r : Refusal) → number r ≡ forecast_number c b → step c b ≡ refused c (number r)
unfolding forecast_number step_number
step_checked c b r e =
    let some : forecast_number c b ≡ 0 → ⊥ = λ z. omega (arith, number_positive r) in
    let n : step_number c b ≡ forecast_number c b = first_of_early _ ((crowded c (remains c b), 8) ∷ []) some in
    rw (e, ← n) (step_refused c b (rw n (ne_eqb _ _ some)))

-- The refusal that a `?` returned answers a step that is refused so.
pub answers_returned :
    (c : List ℕ) (s : Step) (a : Result Written Refusal) (r : Refusal) → IsErrAnd a (λ x. x ≡ r) → s ≡ refused c (number r) → IsAnswer s a
unfolding refused
answers_returned c s a r h e =
    let p = err_from_is_err_and a h in
    let q : a ≡ Err r = p.1 ∙ ap Err p.2 in
    rw (q, e) (record { number = refl; write = refl; freed = refl; finished = refl })

-- The card that a step leaves is the card with its write made.
pub step_writes : (c b : List ℕ) → (step c b).card ≡ with_write c (step c b).made
unfolding step taken refused
step_writes c b = go (eqb (step_number c b) 0)
  where
    go : (t : Bool) → let s = cond t (taken c (remains c b) (next_write c (remains c b))) (refused c (step_number c b)) in s.card ≡ with_write c s.made
    go true = refl
    go false = refl

-- Its write is the one of the three that it names.
pub step_made : (c b : List ℕ) → ((step c b).write ≡ 0 → ⊥) → (step c b).made ≡ the_write c (remains c b) (step c b).write
unfolding step taken refused
step_made c b = go (eqb (step_number c b) 0)
  where
    go : (t : Bool) → let s = cond t (taken c (remains c b) (next_write c (remains c b))) (refused c (step_number c b)) in
        (s.write ≡ 0 → ⊥) → s.made ≡ the_write c (remains c b) s.write
    go true h = refl
    go false h = absurd (h refl)

-- The size of a sound card's blocks, read.
pub size_of : (c : List ℕ) (k : Configuration) → judged c ≡ 0 → ConfigurationOf c k → (k.size ≡ block_size c) × (k.size ≤ 1024)
size_of c k j e = let f = facts c j in (omega (arith, f.size_high, e.of_size), omega (arith, f.size_high, e.of_size))
