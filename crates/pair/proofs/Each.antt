-- A property of every element of a list.
use Prim.Native.Nat.{ℕ, zero, suc, ◌<◌}
use mathlib.Core.Path.{◌≡◌, refl}
use mathlib.Core.Bool.{Bool, true, false, cond}
use mathlib.Core.List.{List, [], ◌∷◌, ◌++◌}
use lib.ListN.{length, get_or, take, drop}
use lib.Dec.{ltb, eqb}
use native.Mathlib.Omega.{arith}
use Rattle.pair.specs.Rising.{Each, keep, insert, last}

-- of two lists in a row, and of each of them
pub each_append : (P : ℕ → Type 0) (xs ys : List ℕ) → Each P xs → Each P ys → Each P (xs ++ ys)
each_append P [] ys a b = b
each_append P (x ∷ xs) ys a b = (a.0, each_append P xs ys a.1 b)

pub each_first : (P : ℕ → Type 0) (xs ys : List ℕ) → Each P (xs ++ ys) → Each P xs
each_first P [] ys a = tt
each_first P (x ∷ xs) ys a = (a.0, each_first P xs ys a.1)

pub each_second : (P : ℕ → Type 0) (xs ys : List ℕ) → Each P (xs ++ ys) → Each P ys
each_second P [] ys a = a
each_second P (x ∷ xs) ys a = each_second P xs ys a.1

-- a property that implies another
pub each_imply : (P Q : ℕ → Type 0) → ((x : ℕ) → P x → Q x) → (xs : List ℕ) → Each P xs → Each Q xs
each_imply P Q f [] a = tt
each_imply P Q f (x ∷ xs) a = (f x a.0, each_imply P Q f xs a.1)

-- a property of every number
pub each_all : (P : ℕ → Type 0) → ((x : ℕ) → P x) → (xs : List ℕ) → Each P xs
each_all P f [] = tt
each_all P f (x ∷ xs) = (f x, each_all P f xs)

-- of the elements that a test keeps
pub each_keep : (P : ℕ → Type 0) (f : ℕ → Bool) (xs : List ℕ) → Each P xs → Each P (keep f xs)
unfolding keep
each_keep P f [] a = tt
each_keep P f (x ∷ xs) a = go (f x) (each_keep P f xs a.1)
  where
    go : (t : Bool) → Each P (keep f xs) → Each P (cond t (x ∷ keep f xs) (keep f xs))
    go true ih = (a.0, ih)
    go false ih = ih

-- what a test keeps passes it
pub each_kept : (f : ℕ → Bool) (xs : List ℕ) → Each (λ x. f x ≡ true) (keep f xs)
unfolding keep
each_kept f [] = tt
each_kept f (x ∷ xs) = go (f x) refl (each_kept f xs)
  where
    go : (t : Bool) → f x ≡ t → Each (λ y. f y ≡ true) (keep f xs) → Each (λ y. f y ≡ true) (cond t (x ∷ keep f xs) (keep f xs))
    go true e ih = (e, ih)
    go false e ih = ih

-- of a list with a number put in
pub each_insert : (P : ℕ → Type 0) (n : ℕ) (xs : List ℕ) → P n → Each P xs → Each P (insert n xs)
unfolding insert
each_insert P n [] p a = (p, tt)
each_insert P n (x ∷ xs) p a = go (ltb n x) (eqb n x) (each_insert P n xs p a.1)
  where
    go : (s t : Bool) → Each P (insert n xs) → Each P (cond s (n ∷ x ∷ xs) (cond t (x ∷ xs) (x ∷ insert n xs)))
    go true t ih = (p, (a.0, a.1))
    go false true ih = a
    go false false ih = (a.0, ih)

-- of a beginning, and of what comes after it
pub each_take : (P : ℕ → Type 0) (n : ℕ) (xs : List ℕ) → Each P xs → Each P (take n xs)
each_take P zero xs a = tt
each_take P (suc n) [] a = tt
each_take P (suc n) (x ∷ xs) a = (a.0, each_take P n xs a.1)

pub each_drop : (P : ℕ → Type 0) (n : ℕ) (xs : List ℕ) → Each P xs → Each P (drop n xs)
each_drop P zero xs a = a
each_drop P (suc n) [] a = tt
each_drop P (suc n) (x ∷ xs) a = each_drop P n xs a.1

-- of the element at a place in the list
pub each_get_d : (P : ℕ → Type 0) (xs : List ℕ) (i d : ℕ) → i < length xs → Each P xs → P (get_or xs i d)
each_get_d P [] i d h a = absurd (omega arith)
each_get_d P (x ∷ xs) zero d h a = a.0
each_get_d P (x ∷ xs) (suc i) d h a = each_get_d P xs i d (omega arith) a.1

-- of the last element, or of the number that stands for it
pub each_last : (P : ℕ → Type 0) (xs : List ℕ) (d : ℕ) → P d → Each P xs → P (last d xs)
unfolding last
each_last P [] d p a = p
each_last P (x ∷ xs) d p a = each_last P xs x a.0 a.1

-- the last element of a list that has one
pub each_last_cons : (P : ℕ → Type 0) (x : ℕ) (xs : List ℕ) (d : ℕ) → Each P (x ∷ xs) → P (last d (x ∷ xs))
unfolding last
each_last_cons P x xs d a = each_last P xs x a.0 a.1

-- two properties at once
pub each_both : (P Q : ℕ → Type 0) (xs : List ℕ) → Each P xs → Each Q xs → Each (λ x. P x × Q x) xs
each_both P Q [] a b = tt
each_both P Q (x ∷ xs) a b = ((a.0, b.0), each_both P Q xs a.1 b.1)
