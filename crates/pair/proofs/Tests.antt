-- Laws of tests: conjunctions, disjunctions, and tests that say the same.
use Prim.Native.Nat.{ℕ, ◌≤◌, ◌<◌}
use mathlib.Core.Path.{◌≡◌, refl, sym}
use mathlib.Core.Bool.{Bool, true, false, cond, ◌&&◌, ◌||◌, true≢false, false≢true}
use mathlib.Core.Logic.{◌⊎◌, inl, inr}
use lib.Dec.{ltb}
use native.Mathlib.Omega.{arith}
use borrow.Author.Tests.{ltb-true, ltb-false, lt-ltb}

-- a conjunction holds exactly where both sides do
pub and_left : (a b : Bool) → (a && b) ≡ true → a ≡ true
and_left true b e = refl
and_left false b e = e

pub and_right : (a b : Bool) → (a && b) ≡ true → b ≡ true
and_right true b e = e
and_right false b e = absurd (false≢true e)

pub and_both : (a b : Bool) → a ≡ true → b ≡ true → (a && b) ≡ true
and_both true b e f = f
and_both false b e f = e

-- a disjunction fails exactly where both sides do
pub or_left : (a b : Bool) → (a || b) ≡ false → a ≡ false
or_left true b e = e
or_left false b e = refl

pub or_right : (a b : Bool) → (a || b) ≡ false → b ≡ false
or_right true b e = absurd (true≢false e)
or_right false b e = e

pub or_both : (a b : Bool) → a ≡ false → b ≡ false → (a || b) ≡ false
or_both true b e f = e
or_both false b e f = f

-- one side of a true disjunction is true
pub or_cases : (a b : Bool) → (a || b) ≡ true → (a ≡ true) ⊎ (b ≡ true)
or_cases true b e = inl refl
or_cases false b e = inr e

pub or_intro : (a b : Bool) → (a ≡ true) ⊎ (b ≡ true) → (a || b) ≡ true
or_intro true b h = refl
or_intro false b (inl e) = absurd (false≢true e)
or_intro false b (inr e) = e

-- no test is both true and false
pub contradiction : {X : Type 0} (a : Bool) → a ≡ true → a ≡ false → X
contradiction true e f = absurd (true≢false f)
contradiction false e f = absurd (false≢true e)

-- what is not true is false
pub not_holds : (a : Bool) → (a ≡ true → ⊥) → a ≡ false
not_holds true h = absurd (h refl)
not_holds false h = refl

-- two tests that hold together are equal
pub test_ext : (a b : Bool) → (a ≡ true → b ≡ true) → (b ≡ true → a ≡ true) → a ≡ b
test_ext true b f g = sym (f refl)
test_ext false true f g = g refl
test_ext false false f g = refl

-- what holds of both sides of a choice holds of the choice
pub cond_both {ℓ} : {A : Type ℓ} (P : A → Type 0) (t : Bool) (x y : A) → (t ≡ true → P x) → (t ≡ false → P y) → P (cond t x y)
cond_both P true x y f g = f refl
cond_both P false x y f g = g refl

-- the tests of two pairs of numbers agree where the facts do
pub ltb_agree : (a b c d : ℕ) → (a < b → c < d) → (c < d → a < b) → ltb a b ≡ ltb c d
ltb_agree a b c d f g = test_ext (ltb a b) (ltb c d) (λ e. lt-ltb c d (f (ltb-true a b e))) (λ e. lt-ltb a b (g (ltb-true c d e)))

-- the first is less, they are equal, or the second is less
pub compared : (a b : ℕ) → (a < b) ⊎ ((a ≡ b) ⊎ (b < a))
compared a b = go (ltb a b) refl
  where
    then : (t : Bool) → b ≤ a → ltb b a ≡ t → (a < b) ⊎ ((a ≡ b) ⊎ (b < a))
    then true h f = inr (inr (ltb-true b a f))
    then false h f = inr (inl (let l : a ≤ b = ltb-false b a f in omega arith))

    go : (t : Bool) → ltb a b ≡ t → (a < b) ⊎ ((a ≡ b) ⊎ (b < a))
    go true e = inl (ltb-true a b e)
    go false e = then (ltb b a) (ltb-false a b e) refl
