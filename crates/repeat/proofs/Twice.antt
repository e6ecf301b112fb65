-- Numbers that stand twice: with one more at the end, with others behind them, and at two places.
use Prim.Native.Nat.{ℕ, zero, suc, ◌<◌}
use native.Mathlib.Omega.{arith}
use mathlib.Core.Path.{◌≡◌, refl, sym, ap, ap₂, ◌∙◌}
use mathlib.Core.Logic.{◌≢◌, ⊎_elim, inl, inr}
use mathlib.Core.Bool.{Bool, true, false, ◌||◌, or-false, false≢true}
use mathlib.Core.List.{List, [], ◌∷◌, ◌++◌}
use borrow.Author.Tests.{eq-eqb, ne_eqb, eqb-true}
use lib.ListN.{length, get_or}
use lib.Dec.{eqb}
use Rattle.pair.specs.Rising.{any}
use Rattle.pair.proofs.Tests.{or_both, or_cases, or_intro, test_ext}
use Rattle.pair.proofs.Sets.{has, has_append}
use Rattle.repeat.specs.Repeats.{repeats}

pub eqb_sym : (a b : ℕ) → eqb a b ≡ eqb b a
eqb_sym a b = test_ext (eqb a b) (eqb b a) (λ e. eq-eqb b a (sym (eqb-true a b e))) (λ e. eq-eqb a b (sym (eqb-true b a e)))

-- the two in the middle change places
pub exchange : (a b c d : Bool) → ((a || b) || (c || d)) ≡ ((a || c) || (b || d))
exchange true b c d = refl
exchange false true true d = refl
exchange false true false d = refl
exchange false false c d = refl

pub has_one : (v x : ℕ) → has v (x ∷ []) ≡ eqb v x
unfolding has any
has_one v x = or-false (eqb v x)

pub repeats_one : (xs : List ℕ) (x : ℕ) → repeats (xs ++ x ∷ []) ≡ (repeats xs || has x xs)
unfolding repeats has any
repeats_one [] x = refl
repeats_one (y ∷ ys) x =
    ap₂ ◌||◌ (has_append y ys (x ∷ []) ∙ ap (λ t. has y ys || t) (has_one y x)) (repeats_one ys x)
    ∙ exchange (has y ys) (eqb y x) (repeats ys) (has x ys) ∙ ap (λ t. (has y ys || repeats ys) || (t || has x ys)) (eqb_sym y x)

pub repeats_more : (xs ys : List ℕ) → repeats xs ≡ true → repeats (xs ++ ys) ≡ true
unfolding repeats has any
repeats_more [] ys e = absurd (false≢true e)
repeats_more (x ∷ xs) ys e =
    or_intro (has x (xs ++ ys)) (repeats (xs ++ ys))
    (⊎_elim (λ h. inl (has_append x xs ys ∙ or_intro (has x xs) (has x ys) (inl h))) (λ h. inr (repeats_more xs ys h))
    (or_cases (has x xs) (repeats xs) e))

pub has_place : (xs : List ℕ) (j v : ℕ) → j < length xs → v ≡ get_or xs j 0 → has v xs ≡ true
unfolding has any
has_place [] j v h e = absurd (omega arith)
has_place (x ∷ xs) zero v h e = or_intro (eqb v x) (has v xs) (inl (eq-eqb v x e))
has_place (x ∷ xs) (suc j) v h e = or_intro (eqb v x) (has v xs) (inr (has_place xs j v (omega arith) e))

-- two places have the same number: it stands twice
pub repeats_places : (xs : List ℕ) (i j : ℕ) → i < j → j < length xs → get_or xs i 0 ≡ get_or xs j 0 → repeats xs ≡ true
unfolding repeats has
repeats_places [] i j l h e = absurd (omega arith)
repeats_places (x ∷ xs) i zero l h e = absurd (omega arith)
repeats_places (x ∷ xs) zero (suc j) l h e = or_intro (has x xs) (repeats xs) (inl (has_place xs j x (omega arith) e))
repeats_places (x ∷ xs) (suc i) (suc j) l h e = or_intro (has x xs) (repeats xs) (inr (repeats_places xs i j (omega arith) (omega arith) e))

has_nowhere : (xs : List ℕ) (v : ℕ) → ((j : ℕ) → j < length xs → v ≢ get_or xs j 0) → has v xs ≡ false
unfolding has any
has_nowhere [] v d = refl
has_nowhere (x ∷ xs) v d = or_both (eqb v x) (has v xs) (ne_eqb v x (d 0 (omega arith))) (has_nowhere xs v (λ j h. d (suc j) (omega arith)))

-- no two places do: none stands twice
pub repeats_nowhere : (xs : List ℕ) → ((i j : ℕ) → i < j → j < length xs → get_or xs i 0 ≢ get_or xs j 0) → repeats xs ≡ false
unfolding repeats has
repeats_nowhere [] d = refl
repeats_nowhere (x ∷ xs) d =
    or_both (has x xs) (repeats xs) (has_nowhere xs x (λ j h. d 0 (suc j) (omega arith) (omega arith)))
    (repeats_nowhere xs (λ i j l h. d (suc i) (suc j) (omega arith) (omega arith)))
