-- The elements of a list that pass a test.
use Prim.Native.Nat.{ℕ, suc, ◌≤◌}
use mathlib.Core.Path.{◌≡◌, refl, sym, ◌∙◌}
use mathlib.Core.Bool.{Bool, true, false, cond, ◌&&◌}
use mathlib.Core.List.{List, [], ◌∷◌, ◌++◌}
use lib.ListN.{length}
use native.Mathlib.Omega.{arith}
use Rattle.pair.specs.Rising.{Each, keep}

-- the first element is kept or not
pub keep_cons : (f : ℕ → Bool) (x : ℕ) (xs : List ℕ) → keep f (x ∷ xs) ≡ cond (f x) (x ∷ keep f xs) (keep f xs)
unfolding keep
keep_cons f x xs = refl

-- of two lists in a row
pub keep_append : (f : ℕ → Bool) (xs ys : List ℕ) → keep f (xs ++ ys) ≡ keep f xs ++ keep f ys
unfolding keep
keep_append f [] ys = refl
keep_append f (x ∷ xs) ys = rw (keep_append f xs ys) (go (f x))
  where
    go : (t : Bool) → cond t (x ∷ (keep f xs ++ keep f ys)) (keep f xs ++ keep f ys) ≡ cond t (x ∷ keep f xs) (keep f xs) ++ keep f ys
    go true = refl
    go false = refl

-- tests that agree on the elements keep the same
pub keep_agree : (f g : ℕ → Bool) (xs : List ℕ) → Each (λ x. f x ≡ g x) xs → keep f xs ≡ keep g xs
unfolding keep
keep_agree f g [] h = refl
keep_agree f g (x ∷ xs) h = rw (h.0, keep_agree f g xs h.1)

-- so do tests that agree everywhere
pub keep_same : (f g : ℕ → Bool) → ((x : ℕ) → f x ≡ g x) → (xs : List ℕ) → keep f xs ≡ keep g xs
unfolding keep
keep_same f g h [] = refl
keep_same f g h (x ∷ xs) = rw (h x, keep_same f g h xs)

-- one test after the other is both at once
pub keep_keep : (f g : ℕ → Bool) (xs : List ℕ) → keep f (keep g xs) ≡ keep (λ x. g x && f x) xs
unfolding keep
keep_keep f g [] = refl
keep_keep f g (x ∷ xs) = rw (← keep_keep f g xs) (go (g x))
  where
    go : (t : Bool) → keep f (cond t (x ∷ keep g xs) (keep g xs)) ≡ cond (t && f x) (x ∷ keep f (keep g xs)) (keep f (keep g xs))
    go true = refl
    go false = refl

-- a test changes nothing before a stronger one, and nothing after it
pub keep_before : (f g : ℕ → Bool) → ((x : ℕ) → f x ≡ true → g x ≡ true) → (xs : List ℕ) → keep f (keep g xs) ≡ keep f xs
keep_before f g h xs = keep_keep f g xs ∙ keep_same (λ x. g x && f x) f (λ x. go x (f x) (g x) (h x)) xs
  where
    go : (x : ℕ) (s t : Bool) → (s ≡ true → t ≡ true) → (t && s) ≡ s
    go x true true i = refl
    go x true false i = i refl
    go x false true i = refl
    go x false false i = refl

-- a weaker test afterwards changes nothing
pub keep_after : (f g : ℕ → Bool) → ((x : ℕ) → g x ≡ true → f x ≡ true) → (xs : List ℕ) → keep f (keep g xs) ≡ keep g xs
keep_after f g h xs = keep_keep f g xs ∙ keep_same (λ x. g x && f x) g (λ x. go x (f x) (g x) (h x)) xs
  where
    go : (x : ℕ) (s t : Bool) → (t ≡ true → s ≡ true) → (t && s) ≡ t
    go x s true i = i refl
    go x s false i = refl

-- two tests may change places
pub keep_swap : (f g : ℕ → Bool) (xs : List ℕ) → keep f (keep g xs) ≡ keep g (keep f xs)
keep_swap f g xs =
    keep_keep f g xs ∙ (keep_same (λ x. g x && f x) (λ x. f x && g x) (λ x. go (g x) (f x)) xs ∙ sym (keep_keep g f xs))
  where
    go : (s t : Bool) → (s && t) ≡ (t && s)
    go true true = refl
    go true false = refl
    go false true = refl
    go false false = refl

-- a test that every element passes keeps all, and one that none passes keeps none
pub keep_all : (f : ℕ → Bool) (xs : List ℕ) → Each (λ x. f x ≡ true) xs → keep f xs ≡ xs
unfolding keep
keep_all f [] h = refl
keep_all f (x ∷ xs) h = rw (h.0, keep_all f xs h.1)

pub keep_none : (f : ℕ → Bool) (xs : List ℕ) → Each (λ x. f x ≡ false) xs → keep f xs ≡ []
unfolding keep
keep_none f [] h = refl
keep_none f (x ∷ xs) h = rw h.0 (keep_none f xs h.1)

-- no more elements are kept than there are
pub length_keep : (f : ℕ → Bool) (xs : List ℕ) → length (keep f xs) ≤ length xs
unfolding keep
length_keep f [] = omega arith
length_keep f (x ∷ xs) = go (f x) (length_keep f xs)
  where
    go : (t : Bool) → length (keep f xs) ≤ length xs → length (cond t (x ∷ keep f xs) (keep f xs)) ≤ suc (length xs)
    go true h = omega arith
    go false h = omega arith
