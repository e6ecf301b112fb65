-- Searching a rising list: how many of its elements are at most a bound, found by halving.
use Prim.Native.Nat.{ℕ, zero, suc, ◌+◌, ◌-◌, ◌≤◌, ◌<◌, zero-le}
use native.Mathlib.Omega.{arith}
use mathlib.Core.Path.{◌≡◌, refl, sym, ap, ◌∙◌}
use mathlib.Core.Bool.{Bool, true, false, cond, ◌&&◌}
use mathlib.Core.List.{List, [], ◌∷◌, ◌++◌}
use lib.ListN.{length, take, drop, get_or, length-append}
use lib.Seq.{take-append_seam, drop-append_seam}
use lib.Dec.{ltb, leb}
use borrow.Author.Tests.{leb-true, leb-false, ltb-true, ltb-false, le-leb, lt-leb}
use Rattle.pair.specs.Rising.{keep, above, at_most, rising_from}
use Rattle.pair.proofs.Keep.{keep_keep, length_keep}
use Rattle.pair.proofs.Rising.{rising_tail, rising_above}
use Rattle.pair.proofs.Parts.{parts, at_most_none, at_most_append, at_most_at_most, at_most_nearer, at_most_above_none}

-- an element at most b stands among the first so many, and one above b behind them
pub at_most_in : (xs : List ℕ) (k i b : ℕ) → rising_from k xs ≡ true → i < length xs → get_or xs i 0 ≤ b → i < length (at_most b xs)
unfolding at_most keep
at_most_in [] k i b r l h = absurd (omega arith)
at_most_in (x ∷ xs) k zero b r l h = rw (le-leb x b h) (omega arith)
at_most_in (x ∷ xs) k (suc i) b r l h = go (leb x b) refl (at_most_in xs x i b (rising_tail x xs k r) (omega arith) h)
  where
    go : (s : Bool) → leb x b ≡ s → i < length (at_most b xs) → suc i < length (cond s (x ∷ at_most b xs) (at_most b xs))
    go true e ih = omega arith
    go false e ih =
        let none : at_most b xs ≡ [] = at_most_none xs b x (omega (arith, leb-false x b e)) (rising_tail x xs k r) in
        absurd (let z : i < 0 = rw none at ih in omega arith)

pub at_most_out : (xs : List ℕ) (k i b : ℕ) → rising_from k xs ≡ true → i < length xs → b < get_or xs i 0 → length (at_most b xs) ≤ i
unfolding at_most keep
at_most_out [] k i b r l h = absurd (omega arith)
at_most_out (x ∷ xs) k zero b r l h =
    rw (lt-leb x b h) (let none : at_most b xs ≡ [] = at_most_none xs b x (omega arith) (rising_tail x xs k r) in omega (arith, ap length none))
at_most_out (x ∷ xs) k (suc i) b r l h = go (leb x b) (at_most_out xs x i b (rising_tail x xs k r) (omega arith) h)
  where
    go : (s : Bool) → length (at_most b xs) ≤ i → length (cond s (x ∷ at_most b xs) (at_most b xs)) ≤ suc i
    go true ih = omega arith
    go false ih = omega arith

-- a search by halving, in any list: the element before low is at most b, and the one at high is above it
pub record Halved (xs : List ℕ) (b low high : ℕ) : Type 0 where
  pub order : low ≤ high
  pub inside : high ≤ length xs
  pub below : 0 < low → get_or xs (low - 1) 0 ≤ b
  pub beyond : high < length xs → b < get_or xs high 0

pub halved_start : (xs : List ℕ) (b : ℕ) → Halved xs b 0 (length xs)
halved_start xs b =
    record {
      order = zero-le;
      inside = omega arith;
      below = λ l. absurd (let z : ⊥ = omega arith in z);
      beyond = λ l. absurd (let z : ⊥ = omega arith in z);
    }

pub halved_up : {xs : List ℕ} {b low high m : ℕ} → Halved xs b low high → low ≤ m → m < high → get_or xs m 0 ≤ b → Halved xs b (m + 1) high
halved_up {xs} {b} {low} {high} {m} h l u e =
    let n : m + 1 - 1 ≡ m = omega arith in
    record { order = omega arith; inside = h.inside; below = λ q. rw n e; beyond = h.beyond }

pub halved_down : {xs : List ℕ} {b low high m : ℕ} → Halved xs b low high → low ≤ m → m < high → b < get_or xs m 0 → Halved xs b low m
halved_down {xs} {b} {low} {high} {m} h l u e = record { order = l; inside = omega (arith, h.inside); below = h.below; beyond = λ q. e }

-- in a rising list, as many are at most b as stand before the place found
pub halved_end : {xs : List ℕ} {b low high : ℕ} → Halved xs b low high → high ≤ low → rising_from 0 xs ≡ true → low ≡ length (at_most b xs)
halved_end {xs} {b} {low} {high} h l r =
    omega (arith, h.order, lowest low h.below (omega (arith, h.order, h.inside)), highest (ltb high (length xs)) refl)
  where
    lowest : (n : ℕ) → (0 < n → get_or xs (n - 1) 0 ≤ b) → n ≤ length xs → n ≤ length (at_most b xs)
    lowest zero f i = zero-le
    lowest (suc n) f i =
        let e : suc n - 1 ≡ n = omega arith in
        let g : get_or xs n 0 ≤ b = rw e at (f (omega arith)) in
        omega (arith, at_most_in xs 0 n b r (omega arith) g)

    highest : (s : Bool) → ltb high (length xs) ≡ s → length (at_most b xs) ≤ high
    highest true e = let i = ltb-true high (length xs) e in at_most_out xs 0 high b r i (h.beyond i)
    highest false e = unfold at_most in omega (arith, ltb-false high (length xs) e, length_keep (λ x. leb x b) xs)

-- the elements above a and at most z are a stretch of the list
pub between : (a z : ℕ) (xs : List ℕ) → keep (λ x. ltb a x && leb x z) xs ≡ at_most z (above a xs)
unfolding at_most above
between a z xs = sym (keep_keep (λ x. leb x z) (ltb a) xs)

pub stretch :
    (xs : List ℕ) (k a z : ℕ) → rising_from k xs ≡ true →
    keep (λ x. ltb a x && leb x z) xs ≡ take (length (at_most z xs) - length (at_most a xs)) (drop (length (at_most a xs)) xs)
stretch xs k a z r = between a z xs ∙ go (leb a z) refl
  where
    rest : drop (length (at_most a xs)) xs ≡ above a xs
    rest = ap (λ l. drop (length (at_most a xs)) l) (sym (parts xs k a r)) ∙ drop-append_seam (at_most a xs) (above a xs)

    first : take (length (at_most z (above a xs))) (above a xs) ≡ at_most z (above a xs)
    first =
        ap (λ l. take (length (at_most z (above a xs))) l) (sym (parts (above a xs) a z (rising_above xs k a r)))
        ∙ take-append_seam (at_most z (above a xs)) (above z (above a xs))

    both : at_most z xs ≡ at_most z (at_most a xs) ++ at_most z (above a xs)
    both = ap (at_most z) (sym (parts xs k a r)) ∙ at_most_append z (at_most a xs) (above a xs)

    go : (s : Bool) → leb a z ≡ s → at_most z (above a xs) ≡ take (length (at_most z xs) - length (at_most a xs)) (drop (length (at_most a xs)) xs)
    go true e =
        let n : length (at_most z xs) ≡ length (at_most a xs) + length (at_most z (above a xs))
        = ap length both ∙ rw (at_most_at_most a z xs (leb-true a z e)) (length-append (at_most a xs) (at_most z (above a xs))) in
        let m : length (at_most z xs) - length (at_most a xs) ≡ length (at_most z (above a xs)) = omega arith in
        rw (m, rest) (sym first)
    go false e =
        let f : z < a = leb-false a z e in
        let n : length (at_most z xs) ≤ length (at_most a xs)
        = rw (← at_most_nearer z a xs (omega arith)) (unfold at_most in length_keep (λ x. leb x z) (at_most a xs)) in
        let m : length (at_most z xs) - length (at_most a xs) ≡ 0 = omega arith in
        rw m (at_most_above_none z a xs (omega arith))
