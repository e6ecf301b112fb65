-- Lists of 32-bit words stay lists of 32-bit words.
use Prim.Native.Nat.{ℕ, zero, suc, ◌+◌, ◌<◌}
use mathlib.Core.List.{List, [], ◌∷◌, ◌++◌}
use native.Mathlib.Omega.{arith}
use lib.ListN.{take, drop, set, replicate}
use lib.Seq.{sets, get_or-drop}
use Rattle.pair.specs.Rank.{Words}

pub words_nil : Words []
unfolding Words
words_nil i = omega arith

pub words_cons : (x : ℕ) (xs : List ℕ) → x < 4294967296 → Words xs → Words (x ∷ xs)
unfolding Words
words_cons x xs h w zero = h
words_cons x xs h w (suc i) = w i

pub words_append : (xs ys : List ℕ) → Words xs → Words ys → Words (xs ++ ys)
unfolding Words
words_append [] ys v w i = w i
words_append (x ∷ xs) ys v w zero = v 0
words_append (x ∷ xs) ys v w (suc i) = words_append xs ys (λ j. v (suc j)) w i

pub words_take : (n : ℕ) (xs : List ℕ) → Words xs → Words (take n xs)
unfolding Words
words_take zero xs w i = omega arith
words_take (suc n) [] w i = w i
words_take (suc n) (x ∷ xs) w zero = w 0
words_take (suc n) (x ∷ xs) w (suc i) = words_take n xs (λ j. w (suc j)) i

pub words_drop : (n : ℕ) (xs : List ℕ) → Words xs → Words (drop n xs)
unfolding Words
words_drop n xs w i = rw get_or-drop (w (n + i))

pub words_zeros : (n : ℕ) → Words (replicate n 0)
unfolding Words
words_zeros zero i = omega arith
words_zeros (suc n) zero = omega arith
words_zeros (suc n) (suc i) = words_zeros n i

pub words_set : (l : List ℕ) (p v : ℕ) → v < 4294967296 → Words l → Words (set l p v)
unfolding Words
words_set [] p v h w i = omega arith
words_set (x ∷ xs) zero v h w zero = h
words_set (x ∷ xs) zero v h w (suc i) = w (suc i)
words_set (x ∷ xs) (suc p) v h w zero = w 0
words_set (x ∷ xs) (suc p) v h w (suc i) = words_set xs p v h (λ j. w (suc j)) i

-- 32-bit words written into 32-bit words.
pub words_sets : (vs l : List ℕ) (p : ℕ) → Words l → Words vs → Words (sets l p vs)
words_sets [] l p w v = w
words_sets (x ∷ vs) l p w v = words_sets vs (set l p x) (suc p) (words_set l p x (first v) w) (rest v)
  where
    first : Words (x ∷ vs) → x < 4294967296
    first v = unfold Words in v 0

    rest : Words (x ∷ vs) → Words vs
    rest v = unfold Words in λ i. v (suc i)
