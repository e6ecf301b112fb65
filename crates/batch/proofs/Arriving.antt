-- The latest of the updates that pass a test.
use Prim.Native.Nat.{ℕ, max, ◌<◌}
use native.Mathlib.Omega.{arith}
use mathlib.Core.Path.{◌≡◌, refl, ◌∙◌}
use mathlib.Core.Bool.{Bool, true, false, cond, ◌&&◌, ◌||◌}
use mathlib.Core.List.{List, [], ◌∷◌, ◌++◌}
use lib.Dec.{ltb, leb}
use borrow.Author.Tests.{ltb-true, ltb-false, lt-ltb, le-ltb, leb-false}
use Rattle.pair.proofs.Tests.{or_left, or_right}
use Rattle.batch.specs.Batch.{Update, any_update, latest}

pub ltb_max : (a m n : ℕ) → ltb a (max m n) ≡ (ltb a m || ltb a n)
ltb_max a m n = go (ltb a m) refl (ltb a n) refl
  where
    go : (s : Bool) → ltb a m ≡ s → (t : Bool) → ltb a n ≡ t → ltb a (max m n) ≡ (s || t)
    go true e t f = lt-ltb a (max m n) (omega (arith, ltb-true a m e))
    go false e true f = lt-ltb a (max m n) (omega (arith, ltb-true a n f))
    go false e false f = le-ltb a (max m n) (omega (arith, ltb-false a m e, ltb-false a n f))

-- it arrived after a exactly where one of them did
pub latest_after : (f : Update → Bool) (us : List Update) (a : ℕ) → ltb a (latest f us) ≡ any_update (λ u. f u && ltb a u.arrival) us
unfolding latest any_update
latest_after f [] a = le-ltb a 0 (omega arith)
latest_after f (u ∷ us) a = go (f u) (latest_after f us a)
  where
    go : (t : Bool) → ltb a (latest f us) ≡ any_update (λ v. f v && ltb a v.arrival) us →
        ltb a (cond t (max u.arrival (latest f us)) (latest f us)) ≡ ((t && ltb a u.arrival) || any_update (λ v. f v && ltb a v.arrival) us)
    go true ih = ltb_max a u.arrival (latest f us) ∙ rw ih
    go false ih = ih

-- none passes the test
pub latest_none : (f : Update → Bool) (us : List Update) → any_update f us ≡ false → latest f us ≡ 0
unfolding latest any_update
latest_none f [] h = refl
latest_none f (u ∷ us) h = rw (or_left (f u) (any_update f us) h) (latest_none f us (or_right (f u) (any_update f us) h))

-- updates after others, and one of two tests
pub latest_append : (f : Update → Bool) (us vs : List Update) → latest f (us ++ vs) ≡ max (latest f us) (latest f vs)
unfolding latest
latest_append f [] vs = omega arith
latest_append f (u ∷ us) vs = go (f u) (latest_append f us vs)
  where
    go : (t : Bool) → latest f (us ++ vs) ≡ max (latest f us) (latest f vs) →
        cond t (max u.arrival (latest f (us ++ vs))) (latest f (us ++ vs)) ≡ max (cond t (max u.arrival (latest f us)) (latest f us)) (latest f vs)
    go true ih = rw ih (omega arith)
    go false ih = ih

pub latest_either : (f g : Update → Bool) (us : List Update) → latest (λ u. f u || g u) us ≡ max (latest f us) (latest g us)
unfolding latest
latest_either f g [] = refl
latest_either f g (u ∷ us) = go (f u) (g u) (latest_either f g us)
  where
    go : (s t : Bool) → latest (λ v. f v || g v) us ≡ max (latest f us) (latest g us) →
        cond (s || t) (max u.arrival (latest (λ v. f v || g v) us)) (latest (λ v. f v || g v) us)
        ≡ max (cond s (max u.arrival (latest f us)) (latest f us)) (cond t (max u.arrival (latest g us)) (latest g us))
    go true true ih = rw ih (omega arith)
    go true false ih = rw ih (omega arith)
    go false true ih = rw ih (omega arith)
    go false false ih = ih

-- one update among others
pub latest_with_law : (f : Update → Bool) (us vs : List Update) (u : Update) →
    latest f (us ++ u ∷ vs) ≡ cond (f u) (max u.arrival (latest f (us ++ vs))) (latest f (us ++ vs))
unfolding latest
latest_with_law f us vs u = latest_append f us (u ∷ vs) ∙ rw (latest_append f us vs) (go (f u))
  where
    go : (t : Bool) →
        max (latest f us) (cond t (max u.arrival (latest f vs)) (latest f vs))
        ≡ cond t (max u.arrival (max (latest f us) (latest f vs))) (max (latest f us) (latest f vs))
    go true = omega arith
    go false = refl

-- where all that pass the test arrived before n, so did the latest
pub latest_below : (f : Update → Bool) (us : List Update) (n : ℕ) → 0 < n → any_update (λ u. f u && leb n u.arrival) us ≡ false → latest f us < n
unfolding latest any_update
latest_below f [] n p h = p
latest_below f (u ∷ us) n p h =
    go (f u) (or_left (f u && leb n u.arrival) (any_update (λ v. f v && leb n v.arrival) us) h)
    (latest_below f us n p (or_right (f u && leb n u.arrival) (any_update (λ v. f v && leb n v.arrival) us) h))
  where
    go : (t : Bool) → (t && leb n u.arrival) ≡ false → latest f us < n → cond t (max u.arrival (latest f us)) (latest f us) < n
    go true e ih = omega (arith, leb-false n u.arrival e)
    go false e ih = ih
