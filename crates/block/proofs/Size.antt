-- What a list of pairs costs in words, and how many of its leading pairs fit in a room.
use Prim.Native.Nat.{ℕ, zero, suc, ◌+◌, ◌-◌, ◌≤◌, ◌<◌}
use native.Mathlib.Omega.{arith}
use mathlib.Core.Path.{◌≡◌, refl}
use mathlib.Core.Bool.{Bool, true, false, cond}
use mathlib.Core.List.{List, [], ◌∷◌, ◌++◌}
use lib.ListN.{length, take}
use lib.Dec.{leb, eqb}
use borrow.Author.Tests.{leb-true, leb-false, le-leb, eqb-true, eq-eqb}
use Rattle.pair.specs.Rank.{rank, term, Words}
use Rattle.pair.specs.Rising.{keep}
use Rattle.block.specs.Block.{pairs_from, pairs, packed_after, cost, fitting}

-- the words that the pairs take after a pair of the term t, 0 for none
unfoldable pub size : ℕ → List ℕ → ℕ
size t [] = 0
size t (k ∷ ks) = cost t k + size (term k) ks

pub cost_low : (t k : ℕ) → 1 ≤ cost t k
cost_low t k = go (eqb (term k) t)
  where
    go : (s : Bool) → 1 ≤ cond s 1 3
    go true = omega arith
    go false = omega arith

-- a list packs into as many words as it costs
pub size_packed : (t : ℕ) (ks : List ℕ) → length (packed_after t ks) ≡ size t ks
unfolding size packed_after
size_packed t [] = refl
size_packed t (k ∷ ks) = go (size_packed (term k) ks) (eqb (term k) t) refl
  where
    go : length (packed_after (term k) ks) ≡ size (term k) ks → (s : Bool) → eqb (term k) t ≡ s →
        length (packed_after t (k ∷ ks)) ≡ size t (k ∷ ks)
    go ih true e = let f : term k ≡ t = eqb-true (term k) t e in rw e (rw f (omega (arith, rw f at ih)))
    go ih false e = rw e (omega arith)

-- every pair costs a word at least
pub length_size : (t : ℕ) (ks : List ℕ) → length ks ≤ size t ks
unfolding size
length_size t [] = omega arith
length_size t (k ∷ ks) = omega (arith, cost_low t k, length_size (term k) ks)

-- the fitting pairs fit
pub size_fitting : (room t : ℕ) (ks : List ℕ) → size t (take (fitting room t ks) ks) ≤ room
unfolding size fitting
size_fitting room t [] = omega arith
size_fitting room t (k ∷ ks) = go (size_fitting (room - cost t k) (term k) ks) (leb (cost t k) room) refl
  where
    go : size (term k) (take (fitting (room - cost t k) (term k) ks) ks) ≤ room - cost t k →
        (s : Bool) → leb (cost t k) room ≡ s → size t (take (fitting room t (k ∷ ks)) (k ∷ ks)) ≤ room
    go ih true e = rw e (omega (arith, leb-true (cost t k) room e))
    go ih false e = rw e (omega arith)

-- no longer beginning fits
pub fitting_longest : (room t : ℕ) (ks : List ℕ) (n : ℕ) → fitting room t ks < n → n ≤ length ks → room < size t (take n ks)
unfolding size fitting
fitting_longest room t [] n h l = omega arith
fitting_longest room t (k ∷ ks) zero h l = omega arith
fitting_longest room t (k ∷ ks) (suc n) h l =
    go (fitting_longest (room - cost t k) (term k) ks n) (leb (cost t k) room) refl h
  where
    go : (fitting (room - cost t k) (term k) ks < n → n ≤ length ks → room - cost t k < size (term k) (take n ks)) →
        (s : Bool) → leb (cost t k) room ≡ s → cond s (suc (fitting (room - cost t k) (term k) ks)) 0 < suc n →
        room < cost t k + size (term k) (take n ks)
    go ih true e g = omega (arith, ih (omega arith) (omega arith))
    go ih false e g = omega (arith, leb-false (cost t k) room e)

-- pairs that cost no more than the room all fit, whatever follows them
pub fitting_whole : (room t : ℕ) (xs ys : List ℕ) → size t xs ≤ room → length xs ≤ fitting room t (xs ++ ys)
unfolding size fitting
fitting_whole room t [] ys h = omega arith
fitting_whole room t (k ∷ ks) ys h =
    rw (le-leb (cost t k) room (omega arith)) (omega (arith, fitting_whole (room - cost t k) (term k) ks ys (omega arith)))

pub fitting_length : (room t : ℕ) (ks : List ℕ) → fitting room t ks ≤ length ks
unfolding fitting
fitting_length room t [] = omega arith
fitting_length room t (k ∷ ks) = go (fitting_length (room - cost t k) (term k) ks) (leb (cost t k) room)
  where
    go : fitting (room - cost t k) (term k) ks ≤ length ks →
        (s : Bool) → cond s (suc (fitting (room - cost t k) (term k) ks)) 0 ≤ suc (length ks)
    go ih true = omega arith
    go ih false = omega arith

-- another term before the pairs changes the cost of the first one only
pub size_change : (t u : ℕ) (ks : List ℕ) → size t ks ≤ size u ks + 2
unfolding size
size_change t u [] = omega arith
size_change t u (k ∷ ks) = go (eqb (term k) t) (eqb (term k) u)
  where
    go : (r s : Bool) → cond r 1 3 + size (term k) ks ≤ cond s 1 3 + size (term k) ks + 2
    go true true = omega arith
    go true false = omega arith
    go false true = omega arith
    go false false = omega arith

size_tail : (t k : ℕ) (ks : List ℕ) → size t ks ≤ cost t k + size (term k) ks
size_tail t k ks = go (eqb (term k) t) refl
  where
    go : (s : Bool) → eqb (term k) t ≡ s → size t ks ≤ cond s 1 3 + size (term k) ks
    go true e = rw (eqb-true (term k) t e) (omega arith)
    go false e = omega (arith, size_change t (term k) ks)

-- to take pairs away never costs more
pub size_keep : (f : ℕ → Bool) (t : ℕ) (ks : List ℕ) → size t (keep f ks) ≤ size t ks
unfolding size keep
size_keep f t [] = omega arith
size_keep f t (k ∷ ks) = go (size_keep f t ks) (size_keep f (term k) ks) (f k)
  where
    go : size t (keep f ks) ≤ size t ks → size (term k) (keep f ks) ≤ size (term k) ks →
        (s : Bool) → size t (cond s (k ∷ keep f ks) (keep f ks)) ≤ cost t k + size (term k) ks
    go dropped kept true = omega arith
    go dropped kept false = omega (arith, size_tail t k ks)

-- the words of a block hold at least what its pairs cost
size_pairs_from : (ws : List ℕ) (t n : ℕ) → Words ws → size t (pairs_from ws t n) ≤ length ws
unfolding size pairs_from Words
size_pairs_from [] t n w = omega arith
size_pairs_from (p ∷ ws) t (suc n) w =
    let low : p < 4294967296 = w 0 in
    let here : term (rank t p) ≡ t = omega arith in
    rw (eq-eqb (term (rank t p)) t here, here) (omega (arith, size_pairs_from ws t n (λ i. w (suc i))))
size_pairs_from (a ∷ []) t zero w = omega arith
size_pairs_from (a ∷ b ∷ []) t zero w = omega arith
size_pairs_from (a ∷ b ∷ p ∷ ws) t zero w = go (size_pairs_from (p ∷ ws) a b (λ i. w (suc (suc i)))) (eqb a 0)
  where
    go : size a (pairs_from (p ∷ ws) a b) ≤ suc (length ws) →
        (s : Bool) → size t (cond s [] (pairs_from (p ∷ ws) a b)) ≤ suc (suc (suc (length ws)))
    go ih true = omega arith
    go ih false = omega (arith, size_change t a (pairs_from (p ∷ ws) a b))

pub block_size_law : (ws : List ℕ) → Words ws → size 0 (pairs ws) ≤ length ws
unfolding pairs
block_size_law ws w = size_pairs_from ws 0 0 w
