-- The positions that a lookup finds rise.
use Prim.Native.Nat.{ℕ, ◌≤◌, ◌<◌}
use mathlib.Core.Path.{◌≡◌, refl}
use mathlib.Core.Bool.{true, ◌&&◌}
use mathlib.Core.List.{List, [], ◌∷◌, map}
use native.Mathlib.Omega.{arith}
use lib.Dec.{leb}
use borrow.Author.Tests.{leb-true}
use Rattle.pair.specs.Rank.{word_limit, rank, position}
use Rattle.pair.specs.Rising.{Each, keep, within, rising_from}
use Rattle.pair.proofs.Tests.{and_left, and_right}
use Rattle.pair.proofs.Each.{each_kept, each_imply}
use Rattle.pair.proofs.Rising.{rising_head, rising_tail, rising_cons, rising_keep}

-- a number in the range of a question
pub record InRange (a z x : ℕ) : Type 0 where
  pub low : a ≤ x
  pub high : x ≤ z

pub within_range : (a z : ℕ) (xs : List ℕ) → Each (InRange a z) (within a z xs)
unfolding within
within_range a z xs =
    each_imply (λ x. (leb a x && leb x z) ≡ true) (InRange a z)
    (λ x e. record { low = leb-true a x (and_left (leb a x) (leb x z) e); high = leb-true x z (and_right (leb a x) (leb x z) e) })
    (keep (λ x. leb a x && leb x z) xs) (each_kept (λ x. leb a x && leb x z) xs)

rising_above_all : (xs : List ℕ) (j k : ℕ) → rising_from j xs ≡ true → Each (λ x. k < x) xs → rising_from k xs ≡ true
unfolding rising_from
rising_above_all [] j k r e = refl
rising_above_all (x ∷ xs) j k r e = rising_cons x xs k e.0 (rising_tail x xs j r)

-- Among pairs of one term the positions rise with the pairs.
positions_rise :
    (t z : ℕ) → z < word_limit → (xs : List ℕ) (p : ℕ) → rising_from (rank t p) xs ≡ true → Each (λ x. x ≤ rank t z) xs → rising_from p (map position xs) ≡ true
unfolding rising_from
positions_rise t z hz [] p r e = refl
positions_rise t z hz (x ∷ xs) p r e =
    let h : rank t p < x = rising_head x xs (rank t p) r in
    let l : x ≤ rank t z = e.0 in
    let again : rank t (position x) ≡ x = omega arith in
    rising_cons (position x) (map position xs) p (omega arith)
    (positions_rise t z hz xs (position x) (rw again (rising_tail x xs (rank t p) r)) e.1)

-- The positions of a term from a to z rise.
pub range_rises :
    (t a z : ℕ) (s : List ℕ) → 1 ≤ a → z < word_limit → rising_from 0 s ≡ true →
    rising_from 0 (map position (within (rank t a) (rank t z) s)) ≡ true
unfolding within
range_rises t a z s low high r =
    let inside = within_range (rank t a) (rank t z) s in
    let kept = keep (λ x. leb (rank t a) x && leb x (rank t z)) s in
    positions_rise t z high kept 0
    (rising_above_all kept 0 (rank t 0) (rising_keep (λ x. leb (rank t a) x && leb x (rank t z)) s 0 r)
    (each_imply (InRange (rank t a) (rank t z)) (λ x. rank t 0 < x) (λ x i. omega (arith, i.low)) kept inside))
    (each_imply (InRange (rank t a) (rank t z)) (λ x. x ≤ rank t z) (λ x i. i.high) kept inside)
