-- Which 32-bit words are a pair: none is above the highest, so those that are not 0.
use Prim.Native.Nat.{ℕ, ◌<◌}
use mathlib.Core.Path.{◌≡◌, refl}
use mathlib.Core.Bool.{Bool, true, false, ◌&&◌, ◌||◌, not, and-true}
use native.Mathlib.Omega.{arith}
use lib.Dec.{ltb, leb, eqb}
use borrow.Author.Tests.{le-leb, lt-ltb, le-ltb, eqb-true, eqb-false}
use Rattle.pair.specs.Bounds.{is_pair}

-- no 32-bit word is above those of the highest pair
pub word_highest : (x : ℕ) → x < 4294967296 → leb x 4294967295 ≡ true
word_highest x h = le-leb x 4294967295 (omega arith)

-- so a word lies within the bounds where it is above 0
pub is_pair_positive : (t p : ℕ) → t < 4294967296 → p < 4294967296 → is_pair t p ≡ (ltb 0 t && ltb 0 p)
is_pair_positive t p h k = simp (word_highest t h, word_highest p k, and-true)

positive : (x : ℕ) → ltb 0 x ≡ not (eqb x 0)
positive x = go (eqb x 0) refl
  where
    go : (s : Bool) → eqb x 0 ≡ s → ltb 0 x ≡ not s
    go true e = let z = eqb-true x 0 e in le-ltb 0 x (omega arith)
    go false e = let n = eqb-false x 0 e in lt-ltb 0 x (omega arith)

neither : (a b : Bool) → (not a && not b) ≡ not (a || b)
neither true b = refl
neither false b = refl

-- where it is not 0
pub is_pair_word : (t p : ℕ) → t < 4294967296 → p < 4294967296 → is_pair t p ≡ not (eqb t 0 || eqb p 0)
is_pair_word t p h k = rw (is_pair_positive t p h k, positive t, positive p) (neither (eqb t 0) (eqb p 0))
