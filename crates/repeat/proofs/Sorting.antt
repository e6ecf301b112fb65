-- Numbers in another order, and numbers in order.
use Rattle.std.specs.List.{sum_by, IsAllAdjacentAnswer}
use Rattle.std.specs.List.Sorted.{IsPermutation, IsSorted, IsNonDecreasing}
use Rattle.std.specs.Ordering.{nat_cmp}
use Rattle.std.proofs.Common.{◌≡◌, refl, sym, ap, ◌∙◌, ℕ, ◌+◌, ◌<◌, ◌≤◌, Bool, true, false, cond, ◌||◌, not, List, [], ◌∷◌, get_or, arith, ⊎_elim, inl, inr}
use Rattle.std.proofs.lemmas.List.Sorted.{sum_by-IsPermutation, IsNonDecreasingBy-from_sort}
use Rattle.std.proofs.lemmas.List.Sums.{sum_by-cons}
use borrow.Author.Tests.{ltb-true, ltb-false, eq-eqb, eqb-true}
use lib.Dec.{ltb, eqb}
use Rattle.pair.specs.Rising.{any}
use Rattle.pair.proofs.Tests.{or_cases, or_intro, test_ext}
use Rattle.pair.proofs.Sets.{has}
use Rattle.repeat.specs.Repeats.{repeats}
use Rattle.repeat.proofs.Twice.{repeats_places, repeats_nowhere}

-- how often a number stands
count : ℕ → List ℕ → ℕ
count v xs = sum_by (λ x. cond (eqb v x) 1 0) xs

count_cons : (v x : ℕ) (xs : List ℕ) → count v (x ∷ xs) ≡ cond (eqb v x) 1 0 + count v xs
unfolding count
count_cons v x xs = sum_by-cons (λ y. cond (eqb v y) 1 0) x xs

counted_has : (v : ℕ) (xs : List ℕ) → 0 < count v xs → has v xs ≡ true
unfolding count has any
counted_has v [] h = absurd (omega arith)
counted_has v (x ∷ xs) h = go (counted_has v xs) (eqb v x) (rw (count_cons v x xs) at h)
  where
    go : (0 < count v xs → has v xs ≡ true) → (t : Bool) → 0 < cond t 1 0 + count v xs → (t || has v xs) ≡ true
    go ih true h = refl
    go ih false h = ih (omega (arith, h))

has_counted : (v : ℕ) (xs : List ℕ) → has v xs ≡ true → 0 < count v xs
unfolding count has any
has_counted v [] h = cc
has_counted v (x ∷ xs) h = rw (count_cons v x xs) (go (has_counted v xs) (eqb v x) h)
  where
    go : (has v xs ≡ true → 0 < count v xs) → (t : Bool) → (t || has v xs) ≡ true → 0 < cond t 1 0 + count v xs
    go ih true h = omega arith
    go ih false h = omega (arith, ih h)

-- a number stands twice where one is counted twice
counted_repeats : (v : ℕ) (xs : List ℕ) → 2 ≤ count v xs → repeats xs ≡ true
unfolding count repeats has any
counted_repeats v [] h = absurd (omega arith)
counted_repeats v (x ∷ xs) h = go (counted_repeats v xs) (eqb v x) refl (rw (count_cons v x xs) at h)
  where
    go : (2 ≤ count v xs → repeats xs ≡ true) → (t : Bool) → eqb v x ≡ t → 2 ≤ cond t 1 0 + count v xs → (has x xs || repeats xs) ≡ true
    go ih true e h = or_intro (has x xs) (repeats xs) (inl (ap (λ y. has y xs) (sym (eqb-true v x e)) ∙ counted_has v xs (omega (arith, h))))
    go ih false e h = or_intro (has x xs) (repeats xs) (inr (ih (omega (arith, h))))

twice_here : (x : ℕ) (xs : List ℕ) → has x xs ≡ true → 2 ≤ count x (x ∷ xs)
twice_here x xs e = rw (count_cons x x xs, eq-eqb x x refl) (omega (arith, has_counted x xs e))

twice_later : (v x : ℕ) (xs : List ℕ) → 2 ≤ count v xs → 2 ≤ count v (x ∷ xs)
twice_later v x xs h = rw (count_cons v x xs) (omega (arith, h))

repeats_counted : (xs : List ℕ) → repeats xs ≡ true → (v : ℕ) × (2 ≤ count v xs)
unfolding repeats has any
repeats_counted [] h = cc
repeats_counted (x ∷ xs) h =
    ⊎_elim (λ e. (x, twice_here x xs e)) (λ e. let m = repeats_counted xs e in (m.0, twice_later m.0 x xs m.1)) (or_cases (has x xs) (repeats xs) h)

-- so their order changes nothing
pub repeats_moved : (xs ys : List ℕ) → IsPermutation xs ys → repeats ys ≡ repeats xs
unfolding count
repeats_moved xs ys p =
    test_ext (repeats ys) (repeats xs)
    (λ h. let m = repeats_counted ys h in counted_repeats m.0 xs (omega (arith, m.1, sum_by-IsPermutation (λ x. cond (eqb m.0 x) 1 0) xs ys p)))
    (λ h. let m = repeats_counted xs h in counted_repeats m.0 ys (omega (arith, m.1, sum_by-IsPermutation (λ x. cond (eqb m.0 x) 1 0) xs ys p)))

-- numbers in order rise strictly exactly where none stands twice
pub rising_alone : (xs : List ℕ) (r : Bool) → IsSorted nat_cmp xs → IsAllAdjacentAnswer (λ x y b. b ≡ ltb x y) xs r → not r ≡ repeats xs
rising_alone xs true o a =
    let order : IsNonDecreasing xs = IsNonDecreasingBy-from_sort (λ x. x) xs o in
    sym (repeats_nowhere xs (λ i j l h e. omega (arith, ltb-true (get_or xs i 0) (get_or xs (i + 1) 0) (sym (a i 0 (omega arith))), order (i + 1) j 0 (omega arith) h, e)))
rising_alone xs false o a =
    let order : IsNonDecreasing xs = IsNonDecreasingBy-from_sort (λ x. x) xs o in
    let k = a.0 in
    sym (repeats_places xs k (k + 1) (omega arith) a.1 (omega (arith, ltb-false (get_or xs k 0) (get_or xs (k + 1) 0) (sym (a.2 0)), order k (k + 1) 0 (omega arith) a.1)))
