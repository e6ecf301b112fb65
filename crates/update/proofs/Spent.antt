-- The leading places with no pair above the boundary.
use Prim.Native.Nat.{ℕ, zero, suc, ◌+◌, ◌≤◌}
use mathlib.Core.Path.{◌≡◌, refl, sym, ◌∙◌, ap}
use mathlib.Core.Bool.{Bool, true, false, cond}
use mathlib.Core.List.{List, [], ◌∷◌, ◌++◌}
use native.Mathlib.Omega.{arith}
use lib.ListN.{length, drop}
use lib.Dec.{ltb}
use borrow.Author.Tests.{ltb-false, le-ltb}
use Rattle.pair.specs.Rising.{above, keep, any}
use Rattle.pair.proofs.Tests.{or_left, or_right}
use Rattle.pair.proofs.Parts.{above_append}
use Rattle.block.specs.Block.{pairs}
use Rattle.card.specs.Layout.{place, pairs_at}
use Rattle.card.specs.Sound.{first_reaches}
use Rattle.update.specs.Step.{spent}

pub spent_length : (c : List ℕ) (k : ℕ) (is : List ℕ) → spent c k is ≤ length is
unfolding spent
spent_length c k [] = omega arith
spent_length c k (i ∷ is) = go (any (ltb k) (pairs (place c i))) (spent_length c k is)
  where
    go : (t : Bool) → spent c k is ≤ length is → cond t 0 (suc (spent c k is)) ≤ suc (length is)
    go true h = omega arith
    go false h = omega arith

-- The first place left has a pair above it.
pub spent_reaches : (c : List ℕ) (k : ℕ) (is : List ℕ) → first_reaches c k (drop (spent c k is) is) ≡ true
unfolding spent first_reaches
spent_reaches c k [] = refl
spent_reaches c k (i ∷ is) = go (any (ltb k) (pairs (place c i))) refl (spent_reaches c k is)
  where
    go : (t : Bool) → any (ltb k) (pairs (place c i)) ≡ t → first_reaches c k (drop (spent c k is) is) ≡ true
        → first_reaches c k (drop (cond t 0 (suc (spent c k is))) (i ∷ is)) ≡ true
    go true e h = e
    go false e h = h

pub keep_none_any : (f : ℕ → Bool) (xs : List ℕ) → any f xs ≡ false → keep f xs ≡ []
unfolding keep any
keep_none_any f [] e = refl
keep_none_any f (x ∷ xs) e = rw (or_left (f x) (any f xs) e) (keep_none_any f xs (or_right (f x) (any f xs) e))

-- Without them the pairs above it are the same.
pub above_spent : (c : List ℕ) (k : ℕ) (is : List ℕ) → above k (pairs_at c (drop (spent c k is) is)) ≡ above k (pairs_at c is)
unfolding spent pairs_at above
above_spent c k [] = refl
above_spent c k (i ∷ is) = go (any (ltb k) (pairs (place c i))) refl (above_spent c k is)
  where
    go : (t : Bool) → any (ltb k) (pairs (place c i)) ≡ t → above k (pairs_at c (drop (spent c k is) is)) ≡ above k (pairs_at c is)
        → above k (pairs_at c (drop (cond t 0 (suc (spent c k is))) (i ∷ is))) ≡ above k (pairs_at c (i ∷ is))
    go true e h = refl
    go false e h = h ∙ sym (above_append k (pairs (place c i)) (pairs_at c is) ∙ ap (λ l. l ++ above k (pairs_at c is)) (keep_none_any (ltb k) (pairs (place c i)) e))

-- Where no pair is above k none is above a later one.
any_later : (k j : ℕ) (xs : List ℕ) → k ≤ j → any (ltb k) xs ≡ false → any (ltb j) xs ≡ false
unfolding any
any_later k j [] h e = refl
any_later k j (x ∷ xs) h e =
    let l : x ≤ k = ltb-false k x (or_left (ltb k x) (any (ltb k) xs) e) in
    rw (le-ltb j x (omega arith)) (any_later k j xs h (or_right (ltb k x) (any (ltb k) xs) e))

-- So the places spent by k are some of those spent by j.
pub spent_passed : (c : List ℕ) (k j : ℕ) (is : List ℕ) (n : ℕ) → k ≤ j → n ≤ spent c k is → spent c j is ≡ n + spent c j (drop n is)
unfolding spent
spent_passed c k j is zero h l = omega arith
spent_passed c k j [] (suc n) h l = absurd (omega arith)
spent_passed c k j (i ∷ is) (suc n) h l = go (any (ltb k) (pairs (place c i))) refl l (spent_passed c k j is n h)
  where
    go : (t : Bool) → any (ltb k) (pairs (place c i)) ≡ t → suc n ≤ cond t 0 (suc (spent c k is)) → (n ≤ spent c k is → spent c j is ≡ n + spent c j (drop n is)) →
        cond (any (ltb j) (pairs (place c i))) 0 (suc (spent c j is)) ≡ suc n + spent c j (drop n is)
    go true e m ih = absurd (omega arith)
    go false e m ih = rw (any_later k j (pairs (place c i)) h e) (omega (arith, ih (omega arith)))
