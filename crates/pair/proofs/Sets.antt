-- Membership, and the law that two rising lists with the same members are equal.
use Prim.Native.Nat.{ℕ, ◌≤◌, ◌<◌}
use mathlib.Core.Path.{◌≡◌, refl, sym, ap, ◌∙◌}
use mathlib.Core.Bool.{Bool, true, false, cond, ◌&&◌, ◌||◌, true≢false, false≢true, or_assoc, and-false}
use mathlib.Core.List.{List, [], ◌∷◌, ◌++◌}
use mathlib.Core.Logic.{◌⊎◌, inl, inr}
use lib.Dec.{ltb, eqb}
use native.Mathlib.Omega.{arith}
use borrow.Author.Tests.{ltb-true, eqb-true, lt-ltb, eq-eqb}
use Rattle.pair.specs.Rising.{Each, keep, rising_from, insert, last, any}
use Rattle.pair.proofs.Tests.{and_left, and_right, and_both, or_cases, or_intro, contradiction, test_ext}
use Rattle.pair.proofs.Rising.{rising_head, rising_tail, rising_last, rises, rises_from, rises_tail}

-- the number is in the list
unfoldable pub has : ℕ → List ℕ → Bool
has x xs = any (eqb x) xs

-- of two lists in a row
pub has_append : (x : ℕ) (xs ys : List ℕ) → has x (xs ++ ys) ≡ (has x xs || has x ys)
unfolding has any
has_append x [] ys = refl
has_append x (y ∷ xs) ys = rw (has_append x xs ys) (sym (or_assoc (eqb x y) (has x xs) (has x ys)))

-- a set less what fails a test
pub has_keep : (x : ℕ) (f : ℕ → Bool) (xs : List ℕ) → has x (keep f xs) ≡ (f x && has x xs)
unfolding has any keep
has_keep x f [] = sym (and-false (f x))
has_keep x f (y ∷ ys) =
    head (f y) ∙ table (f x) (f y) (eqb x y) (has x (keep f ys)) (has x ys) (λ e. ap f (eqb-true x y e)) (has_keep x f ys)
  where
    head : (t : Bool) → has x (cond t (y ∷ keep f ys) (keep f ys)) ≡ cond t (eqb x y || has x (keep f ys)) (has x (keep f ys))
    head true = refl
    head false = refl

    table : (s t e h k : Bool) → (e ≡ true → s ≡ t) → h ≡ (s && k) → cond t (e || h) h ≡ (s && (e || k))
    table true true e h k i j = rw j
    table true false true h k i j = absurd (true≢false (i refl))
    table true false false h k i j = j
    table false true true h k i j = absurd (false≢true (i refl))
    table false true false h k i j = j
    table false false e h k i j = j

-- a set with a number put in
pub has_insert : (x n : ℕ) (xs : List ℕ) → has x (insert n xs) ≡ (eqb x n || has x xs)
unfolding has any insert
has_insert x n [] = refl
has_insert x n (y ∷ ys) = go (ltb n y) (eqb n y) refl (has_insert x n ys)
  where
    swap : (a b c : Bool) → (a || (b || c)) ≡ (b || (a || c))
    swap true true c = refl
    swap true false c = refl
    swap false b c = refl

    same : (a b : Bool) → (a || b) ≡ (a || (a || b))
    same true b = refl
    same false b = refl

    go : (s t : Bool) → eqb n y ≡ t → has x (insert n ys) ≡ (eqb x n || has x ys)
        → has x (cond s (n ∷ y ∷ ys) (cond t (y ∷ ys) (y ∷ insert n ys))) ≡ (eqb x n || (eqb x y || has x ys))
    go true t f ih = refl
    go false true f ih = rw (eqb-true n y f) (same (eqb x y) (has x ys))
    go false false f ih = rw ih (swap (eqb x y) (eqb x n) (has x ys))

-- a member of a rising list is above its start, and at most its last element
pub has_low : (xs : List ℕ) (x k : ℕ) → rising_from k xs ≡ true → has x xs ≡ true → k < x
unfolding has any
has_low [] x k r h = absurd (false≢true h)
has_low (y ∷ ys) x k r h = go (or_cases (eqb x y) (has x ys) h) (has_low ys x y (rising_tail y ys k r))
  where
    go : (eqb x y ≡ true) ⊎ (has x ys ≡ true) → (has x ys ≡ true → y < x) → k < x
    go (inl e) ih = rw (eqb-true x y e) (rising_head y ys k r)
    go (inr m) ih = let l : k < y = rising_head y ys k r in let i : y < x = ih m in omega arith

pub has_high : (xs : List ℕ) (x k : ℕ) → rising_from k xs ≡ true → has x xs ≡ true → x ≤ last k xs
unfolding has any last
has_high [] x k r h = absurd (false≢true h)
has_high (y ∷ ys) x k r h = go (or_cases (eqb x y) (has x ys) h) (has_high ys x y (rising_tail y ys k r))
  where
    go : (eqb x y ≡ true) ⊎ (has x ys ≡ true) → (has x ys ≡ true → x ≤ last y ys) → x ≤ last y ys
    go (inl e) ih = rw (eqb-true x y e) (rising_last ys y (rising_tail y ys k r))
    go (inr m) ih = ih m

-- the first element is a member, and an empty list has none
pub has_head : (x : ℕ) (xs : List ℕ) → has x (x ∷ xs) ≡ true
unfolding has any
has_head x xs = rw (eq-eqb x x refl)

-- where xs rises from x, a member of x and xs is x, or it is above x and a member of xs
pub has_cases : (x : ℕ) (xs : List ℕ) (y : ℕ) → rising_from x xs ≡ true → has y (x ∷ xs) ≡ true → (y ≡ x) ⊎ ((x < y) × (has y xs ≡ true))
unfolding has any
has_cases x xs y r h = go (or_cases (eqb y x) (has y xs) h)
  where
    go : (eqb y x ≡ true) ⊎ (has y xs ≡ true) → (y ≡ x) ⊎ ((x < y) × (has y xs ≡ true))
    go (inl e) = inl (eqb-true y x e)
    go (inr m) = inr (has_low xs y x r m, m)

-- and the members above x are those of xs
pub has_rest : (x : ℕ) (xs : List ℕ) (y : ℕ) → rising_from x xs ≡ true → has y xs ≡ (ltb x y && has y (x ∷ xs))
unfolding has any
has_rest x xs y r = test_ext (has y xs) (ltb x y && (eqb y x || has y xs)) to from
  where
    to : has y xs ≡ true → (ltb x y && (eqb y x || has y xs)) ≡ true
    to h = and_both (ltb x y) (eqb y x || has y xs) (lt-ltb x y (has_low xs y x r h)) (or_intro (eqb y x) (has y xs) (inr h))

    go : x < y → (y ≡ x) ⊎ ((x < y) × (has y xs ≡ true)) → has y xs ≡ true
    go l (inl e) = absurd (omega arith)
    go l (inr m) = m.1

    from : (ltb x y && (eqb y x || has y xs)) ≡ true → has y xs ≡ true
    from h =
        go (ltb-true x y (and_left (ltb x y) (eqb y x || has y xs) h))
        (has_cases x xs y r (and_right (ltb x y) (eqb y x || has y xs) h))

pub has_none : (x : ℕ) → has x [] ≡ false
unfolding has any
has_none x = refl

-- two rising lists with the same members are equal
pub rises_ext : (xs ys : List ℕ) → rises xs ≡ true → rises ys ≡ true → ((x : ℕ) → has x xs ≡ has x ys) → xs ≡ ys
unfolding rises
rises_ext [] [] r s h = refl
rises_ext [] (y ∷ ys) r s h = contradiction (has y (y ∷ ys)) (has_head y ys) (sym (h y) ∙ has_none y)
rises_ext (x ∷ xs) [] r s h = contradiction (has x (x ∷ xs)) (has_head x xs) (h x ∙ has_none x)
rises_ext (x ∷ xs) (y ∷ ys) r s h = rw (first, rises_ext xs ys (rises_tail x xs r) (rises_tail y ys s) rest)
  where
    at : (x ≡ y) ⊎ ((y < x) × (has x ys ≡ true)) → (y ≡ x) ⊎ ((x < y) × (has y xs ≡ true)) → x ≡ y
    at (inl e) q = e
    at (inr m) (inl e) = sym e
    at (inr m) (inr n) = absurd (omega arith)

    first : x ≡ y
    first = at (has_cases y ys x s (sym (h x) ∙ has_head x xs)) (has_cases x xs y r (h y ∙ has_head y ys))

    rest : (z : ℕ) → has z xs ≡ has z ys
    rest z = has_rest x xs z r ∙ rw (h z, first) (sym (has_rest y ys z s))

-- the same for lists that rise from given starts
pub rising_ext : (xs ys : List ℕ) (j k : ℕ) → rising_from j xs ≡ true → rising_from k ys ≡ true → ((x : ℕ) → has x xs ≡ has x ys) → xs ≡ ys
rising_ext xs ys j k r s h = rises_ext xs ys (rises_from xs j r) (rises_from ys k s) h

-- a property of the members
pub each_has : (P : ℕ → Type 0) (xs : List ℕ) (x : ℕ) → Each P xs → has x xs ≡ true → P x
unfolding has any
each_has P [] x a h = absurd (false≢true h)
each_has P (y ∷ ys) x a h = go (or_cases (eqb x y) (has x ys) h) (each_has P ys x a.1)
  where
    go : (eqb x y ≡ true) ⊎ (has x ys ≡ true) → (has x ys ≡ true → P x) → P x
    go (inl e) ih = rw (eqb-true x y e) a.0
    go (inr m) ih = ih m

-- what holds of every member holds of each element
pub each_members : (P : ℕ → Type 0) (xs : List ℕ) → ((x : ℕ) → has x xs ≡ true → P x) → Each P xs
unfolding has any
each_members P [] f = tt
each_members P (y ∷ ys) f = (f y (has_head y ys), each_members P ys (λ x h. f x (or_intro (eqb x y) (has x ys) (inr h))))

-- every element of a list that rises from k is above k
pub rising_Each : (xs : List ℕ) (k : ℕ) → rising_from k xs ≡ true → Each (λ x. k < x) xs
rising_Each xs k r = each_members (λ x. k < x) xs (λ x h. has_low xs x k r h)
