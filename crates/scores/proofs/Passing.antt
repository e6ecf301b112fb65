-- A pass, one step after another.
use Prim.Native.Nat.{ℕ, zero, suc, ◌+◌, ◌-◌, ◌≤◌, ◌<◌, zero-le}
use native.Mathlib.Omega.{arith}
use native.Mathlib.Numerals.{add-one}
use mathlib.Core.Path.{◌≡◌, refl, sym, ◌∙◌}
use mathlib.Core.Logic.{◌≢◌}
use mathlib.Core.Bool.{Bool, true, false, ◌||◌}
use mathlib.Core.List.{List}
use borrow.Author.Tests.{eq-eqb, ne_eqb}
use lib.ListN.{length}
use Rattle.pair.proofs.Tests.{contradiction}
use Rattle.pair.specs.Rank.{Words}
use Rattle.card.specs.Sound.{judged}
use Rattle.update.proofs.Ends.{pass_finishes_law}
use Rattle.update.specs.Step.{step}
use Rattle.update.specs.Pass.{finishes_within, refused_within}
use Rattle.scores.specs.Outcome.{Finished, Refused, pass_from, steps_most}

-- of n steps one is refused or finishes the pass
unfoldable pub ends_within : ℕ → List ℕ → List ℕ → Bool
ends_within n c b = refused_within n c b || finishes_within n c b

-- those of the step limit do
pub ends_limit : (c b : List ℕ) → Words c → Words b → judged c ≡ 0 → ends_within (steps_most c b) c b ≡ true
unfolding ends_within steps_most
ends_limit c b v w j = go (refused_within (steps_most c b) c b) refl
  where
    go : (t : Bool) → refused_within (steps_most c b) c b ≡ t → (t || finishes_within (steps_most c b) c b) ≡ true
    go true e = refl
    go false e = pass_finishes_law c b v w j e

-- so many steps are made, and the others decide
pub record Passing (limit : ℕ) (first b c : List ℕ) (steps : ℕ) : Type 0 where
  pub within : steps ≤ limit
  pub long : length c ≡ length first
  pub ends : ends_within (limit - steps) c b ≡ true
  pub rest : pass_from limit 0 first b ≡ pass_from (limit - steps) steps c b

pub passing_start : (limit : ℕ) (c b : List ℕ) → ends_within limit c b ≡ true → Passing limit c b c 0
passing_start limit c b e =
    let z : limit - 0 ≡ limit = omega arith in
    record { within = zero-le; long = refl; ends = rw z e; rest = rw z }

pub ends_some : (n : ℕ) (c b : List ℕ) → ends_within n c b ≡ true → 0 < n
unfolding ends_within refused_within finishes_within
ends_some zero c b e = contradiction false e refl
ends_some (suc n) c b e = omega arith

-- a step more is left
pub passing_some : {limit : ℕ} {first b c : List ℕ} {steps : ℕ} → Passing limit first b c steps → steps < limit
passing_some {limit} {first} {b} {c} {steps} p = omega (arith, ends_some (limit - steps) c b p.ends)

-- one step of the definition
pub refused_here : (n made : ℕ) (c b : List ℕ) → 0 < n → (step c b).number ≢ 0 → Refused (step c b).number ≡ pass_from n made c b
unfolding pass_from
refused_here zero made c b h k = absurd (omega arith)
refused_here (suc n) made c b h k = rw (ne_eqb (step c b).number 0 k)

pub finished_here : (n made : ℕ) (c b : List ℕ) → 0 < n → (step c b).number ≡ 0 → (step c b).finished ≡ true → Finished (made + 1) ≡ pass_from n made c b
unfolding pass_from
finished_here zero made c b h k f = absurd (omega arith)
finished_here (suc n) made c b h k f = rw (eq-eqb (step c b).number 0 k, f, add-one)

pub goes_on_law :
    (n m made : ℕ) (c b : List ℕ) → n ≡ suc m → (step c b).number ≡ 0 → (step c b).finished ≡ false → pass_from n made c b ≡ pass_from m (made + 1) (step c b).card b
unfolding pass_from
goes_on_law n m made c b e k f = rw (e, eq-eqb (step c b).number 0 k, f, add-one)

pub ends_later : (n m : ℕ) (c b : List ℕ) → n ≡ suc m → (step c b).number ≡ 0 → (step c b).finished ≡ false → ends_within n c b ≡ true → ends_within m (step c b).card b ≡ true
unfolding ends_within refused_within finishes_within
ends_later n m c b e k f q = rw (e, eq-eqb (step c b).number 0 k, f) at q

module _ {limit : ℕ} {first b c : List ℕ} {steps : ℕ} (p : Passing limit first b c steps) where
  pub passing_refused : (step c b).number ≢ 0 → Refused (step c b).number ≡ pass_from limit 0 first b
  passing_refused k = refused_here (limit - steps) steps c b (omega (arith, passing_some p)) k ∙ sym p.rest

  pub passing_finished : (step c b).number ≡ 0 → (step c b).finished ≡ true → Finished (steps + 1) ≡ pass_from limit 0 first b
  passing_finished k f = finished_here (limit - steps) steps c b (omega (arith, passing_some p)) k f ∙ sym p.rest

  pub passing_turn :
      {after : List ℕ} → (step c b).number ≡ 0 → (step c b).finished ≡ false → after ≡ (step c b).card → length after ≡ length c →
      Passing limit first b after (steps + 1)
  passing_turn {after} k f a l =
      let e : limit - steps ≡ suc (limit - (steps + 1)) = omega (arith, passing_some p) in
      record {
        within = omega (arith, passing_some p);
        long = l ∙ p.long;
        ends = rw a (ends_later (limit - steps) (limit - (steps + 1)) c b e k f p.ends);
        rest = rw a (p.rest ∙ goes_on_law (limit - steps) (limit - (steps + 1)) steps c b e k f);
      }
