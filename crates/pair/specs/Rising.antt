-- Sets of numbers as rising lists.
use Rattle.std.specs.Prelude.{ℕ, Bool, true, false, cond, ◌&&◌, ◌||◌, List, [], ◌∷◌, ltb, leb, eqb}

-- every element has the property
abbrev pub Each : (ℕ → Type 0) → List ℕ → Type 0
Each P [] = Unit {0}
Each P (x ∷ xs) = P x × Each P xs

-- the elements that pass a test
unfoldable pub keep : (ℕ → Bool) → List ℕ → List ℕ
keep f [] = []
keep f (x ∷ xs) = cond (f x) (x ∷ keep f xs) (keep f xs)

unfoldable pub above : ℕ → List ℕ → List ℕ
above k xs = keep (ltb k) xs

unfoldable pub at_most : ℕ → List ℕ → List ℕ
at_most k xs = keep (λ x. leb x k) xs

unfoldable pub within : ℕ → ℕ → List ℕ → List ℕ
within a z xs = keep (λ x. leb a x && leb x z) xs

-- each element is greater than the one before, and the first greater than k
unfoldable pub rising_from : ℕ → List ℕ → Bool
rising_from k [] = true
rising_from k (x ∷ xs) = ltb k x && rising_from x xs

-- a rising list with k in it
unfoldable pub insert : ℕ → List ℕ → List ℕ
insert k [] = k ∷ []
insert k (x ∷ xs) = cond (ltb k x) (k ∷ x ∷ xs) (cond (eqb k x) (x ∷ xs) (x ∷ insert k xs))

-- the last element, d where there is none
unfoldable pub last : ℕ → List ℕ → ℕ
last d [] = d
last d (x ∷ xs) = last x xs

unfoldable pub any : (ℕ → Bool) → List ℕ → Bool
any f [] = false
any f (x ∷ xs) = f x || any f xs
