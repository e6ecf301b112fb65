-- The parts of a set above a number, up to it, and between two numbers.
use Prim.Native.Nat.{ℕ, ◌≤◌, ◌<◌}
use mathlib.Core.Path.{◌≡◌, refl, sym, ap, ◌∙◌}
use mathlib.Core.Bool.{Bool, true, false, cond}
use mathlib.Core.List.{List, [], ◌∷◌, ◌++◌, append-nil}
use lib.ListN.{take, drop, take-append-drop}
use lib.Dec.{ltb, leb}
use native.Mathlib.Omega.{arith}
use borrow.Author.Tests.{ltb-true, ltb-false, leb-true, leb-false, lt-ltb, le-ltb, le-leb, lt-leb}
use Rattle.pair.specs.Rising.{Each, keep, above, at_most, rising_from, last}
use Rattle.pair.proofs.Rising.{rising_head, rising_tail, rising_take, rising_rest, rising_keep, rising_join, rising_weaker, rises, rises_from, rises_tail, rises_keep, rises_rising}
use Rattle.pair.proofs.Sets.{has_low, has_high, each_members}
use Rattle.pair.proofs.Keep.{keep_append, keep_all, keep_none, keep_before, keep_after, keep_swap}
use Rattle.pair.proofs.Each.{each_imply, each_keep, each_kept, each_last}

-- parts of a rising list rise
pub rising_at_most : (xs : List ℕ) (j k : ℕ) → rising_from j xs ≡ true → rising_from j (at_most k xs) ≡ true
unfolding at_most
rising_at_most xs j k r = rising_keep (λ x. leb x k) xs j r

-- parts of two lists in a row
pub above_append : (k : ℕ) (xs ys : List ℕ) → above k (xs ++ ys) ≡ above k xs ++ above k ys
unfolding above
above_append k xs ys = keep_append (ltb k) xs ys

pub at_most_append : (k : ℕ) (xs ys : List ℕ) → at_most k (xs ++ ys) ≡ at_most k xs ++ at_most k ys
unfolding at_most
at_most_append k xs ys = keep_append (λ x. leb x k) xs ys

-- a test before or after the part above k
pub above_keep : (k : ℕ) (f : ℕ → Bool) (xs : List ℕ) → above k (keep f xs) ≡ keep f (above k xs)
unfolding above
above_keep k f xs = keep_swap (ltb k) f xs

-- all of a list that rises from k or from above k is above k, and none of it is at most k
pub above_all : (xs : List ℕ) (k j : ℕ) → k ≤ j → rising_from j xs ≡ true → above k xs ≡ xs
unfolding above
above_all xs k j h r =
    keep_all (ltb k) xs (each_members (λ x. ltb k x ≡ true) xs (λ x m. let l : j < x = has_low xs x j r m in lt-ltb k x (omega arith)))

pub at_most_none : (xs : List ℕ) (k j : ℕ) → k ≤ j → rising_from j xs ≡ true → at_most k xs ≡ []
unfolding at_most
at_most_none xs k j h r =
    keep_none (λ x. leb x k) xs
    (each_members (λ x. leb x k ≡ false) xs (λ x m. let l : j < x = has_low xs x j r m in lt-leb x k (omega arith)))

-- all of a rising list is at most its last element or any number from there on, and none of it is above
pub at_most_all : (xs : List ℕ) (k j : ℕ) → rising_from j xs ≡ true → last j xs ≤ k → at_most k xs ≡ xs
unfolding at_most
at_most_all xs k j r h =
    keep_all (λ x. leb x k) xs
    (each_members (λ x. leb x k ≡ true) xs (λ x m. let l : x ≤ last j xs = has_high xs x j r m in le-leb x k (omega arith)))

pub above_none : (xs : List ℕ) (k j : ℕ) → rising_from j xs ≡ true → last j xs ≤ k → above k xs ≡ []
unfolding above
above_none xs k j r h =
    keep_none (ltb k) xs
    (each_members (λ x. ltb k x ≡ false) xs (λ x m. let l : x ≤ last j xs = has_high xs x j r m in le-ltb k x (omega arith)))

-- a rising list is its part up to k, then its part above k
pub rises_parts : (xs : List ℕ) (k : ℕ) → rises xs ≡ true → at_most k xs ++ above k xs ≡ xs
unfolding at_most above keep rises
rises_parts [] k r = refl
rises_parts (x ∷ xs) k r = go (leb x k) (ltb k x) refl refl (rises_parts xs k (rises_tail x xs r))
  where
    go : (s t : Bool) → leb x k ≡ s → ltb k x ≡ t → at_most k xs ++ above k xs ≡ xs
        → cond s (x ∷ at_most k xs) (at_most k xs) ++ cond t (x ∷ above k xs) (above k xs) ≡ x ∷ xs
    go true true e f ih = absurd (let a : x ≤ k = leb-true x k e in let b : k < x = ltb-true k x f in omega arith)
    go true false e f ih = rw ih
    go false true e f ih =
        let l : k < x = ltb-true k x f in
        let q : k ≤ x = omega arith in
        rw (at_most_none xs k x q r, above_all xs k x q r)
    go false false e f ih = absurd (let a : k < x = leb-false x k e in let b : x ≤ k = ltb-false k x f in omega arith)

-- the same for a list that rises from a given start
pub parts : (xs : List ℕ) (j k : ℕ) → rising_from j xs ≡ true → at_most k xs ++ above k xs ≡ xs
parts xs j k r = rises_parts xs k (rises_from xs j r)

-- parts of parts
pub above_above : (j k : ℕ) (xs : List ℕ) → j ≤ k → above j (above k xs) ≡ above k xs
unfolding above
above_above j k xs h = keep_after (ltb j) (ltb k) (λ x e. let l : k < x = ltb-true k x e in lt-ltb j x (omega arith)) xs

-- the part above k of a part above j is that above k
pub above_further : (j k : ℕ) (xs : List ℕ) → j ≤ k → above k (above j xs) ≡ above k xs
unfolding above
above_further j k xs h = keep_before (ltb k) (ltb j) (λ x e. let l : k < x = ltb-true k x e in lt-ltb j x (omega arith)) xs

-- a part up to j is all up to k
pub at_most_at_most : (j k : ℕ) (xs : List ℕ) → j ≤ k → at_most k (at_most j xs) ≡ at_most j xs
unfolding at_most
at_most_at_most j k xs h =
    keep_after (λ x. leb x k) (λ x. leb x j) (λ x e. let l : x ≤ j = leb-true x j e in le-leb x k (omega arith)) xs

-- the part up to j of a part up to k is that up to j
pub at_most_nearer : (j k : ℕ) (xs : List ℕ) → j ≤ k → at_most j (at_most k xs) ≡ at_most j xs
unfolding at_most
at_most_nearer j k xs h =
    keep_before (λ x. leb x j) (λ x. leb x k) (λ x e. let l : x ≤ j = leb-true x j e in le-leb x k (omega arith)) xs

-- nothing up to j is above j or any number from there on, and nothing above k is at most k or any number before it
pub above_at_most_none : (j k : ℕ) (xs : List ℕ) → j ≤ k → above k (at_most j xs) ≡ []
unfolding above at_most
above_at_most_none j k xs h =
    keep_none (ltb k) (keep (λ x. leb x j) xs)
    (each_imply (λ x. leb x j ≡ true) (λ x. ltb k x ≡ false)
    (λ x e. let l : x ≤ j = leb-true x j e in le-ltb k x (omega arith)) (keep (λ x. leb x j) xs) (each_kept (λ x. leb x j) xs))

pub at_most_above_none : (j k : ℕ) (xs : List ℕ) → j ≤ k → at_most j (above k xs) ≡ []
unfolding above at_most
at_most_above_none j k xs h =
    keep_none (λ x. leb x j) (keep (ltb k) xs)
    (each_imply (λ x. ltb k x ≡ true) (λ x. leb x j ≡ false)
    (λ x e. let l : k < x = ltb-true k x e in lt-leb x j (omega arith)) (keep (ltb k) xs) (each_kept (ltb k) xs))

-- the part above j and up to k, either way round
pub above_at_most : (j k : ℕ) (xs : List ℕ) → above j (at_most k xs) ≡ at_most k (above j xs)
unfolding above at_most
above_at_most j k xs = keep_swap (ltb j) (λ x. leb x k) xs

-- above the last of the first n elements stand the others
pub above_take : (n : ℕ) (xs : List ℕ) (k : ℕ) → rising_from k xs ≡ true → above (last k (take n xs)) xs ≡ drop n xs
above_take n xs k r = ap (above (last k (take n xs))) (sym (take-append-drop n xs)) ∙ (above_append (last k (take n xs)) (take n xs) (drop n xs) ∙ go)
  where
    go : above (last k (take n xs)) (take n xs) ++ above (last k (take n xs)) (drop n xs) ≡ drop n xs
    go =
        rw (above_none (take n xs) (last k (take n xs)) k (rising_take n xs k r) (omega arith))
        (above_all (drop n xs) (last k (take n xs)) (last k (take n xs)) (omega arith) (rising_rest n xs k r))

-- up to it stand these
pub at_most_take : (n : ℕ) (xs : List ℕ) (k : ℕ) → rising_from k xs ≡ true → at_most (last k (take n xs)) xs ≡ take n xs
at_most_take n xs k r = ap (at_most (last k (take n xs))) (sym (take-append-drop n xs)) ∙ (at_most_append (last k (take n xs)) (take n xs) (drop n xs) ∙ go)
  where
    go : at_most (last k (take n xs)) (take n xs) ++ at_most (last k (take n xs)) (drop n xs) ≡ take n xs
    go =
        rw (at_most_all (take n xs) (last k (take n xs)) k (rising_take n xs k r) (omega arith))
        (rw (at_most_none (drop n xs) (last k (take n xs)) (last k (take n xs)) (omega arith) (rising_rest n xs k r)) (append-nil (take n xs)))

-- above the first element of a rising list stand the others
pub above_first : (x : ℕ) (xs : List ℕ) (k : ℕ) → rising_from k (x ∷ xs) ≡ true → above x (x ∷ xs) ≡ xs
unfolding above keep
above_first x xs k r = rw (le-ltb x x (omega arith)) (above_all xs x x (omega arith) (rising_tail x xs k r))

-- what is above k, and what is at most k
pub each_above : (k : ℕ) (xs : List ℕ) → Each (λ x. k < x) (above k xs)
unfolding above
each_above k xs = each_imply (λ x. ltb k x ≡ true) (λ x. k < x) (λ x e. ltb-true k x e) (keep (ltb k) xs) (each_kept (ltb k) xs)

pub each_at_most : (k : ℕ) (xs : List ℕ) → Each (λ x. x ≤ k) (at_most k xs)
unfolding at_most
each_at_most k xs =
    each_imply (λ x. leb x k ≡ true) (λ x. x ≤ k) (λ x e. leb-true x k e) (keep (λ x. leb x k) xs) (each_kept (λ x. leb x k) xs)

-- what holds of every element holds of those above k and of those up to k
pub above_Each : (P : ℕ → Type 0) (k : ℕ) (xs : List ℕ) → Each P xs → Each P (above k xs)
unfolding above
above_Each P k xs a = each_keep P (ltb k) xs a

pub at_most_Each : (P : ℕ → Type 0) (k : ℕ) (xs : List ℕ) → Each P xs → Each P (at_most k xs)
unfolding at_most
at_most_Each P k xs a = each_keep P (λ x. leb x k) xs a

-- the part above k rises from k
pub rises_above : (k : ℕ) (xs : List ℕ) → rises xs ≡ true → rising_from k (above k xs) ≡ true
unfolding above
rises_above k xs r = rises_rising (above k xs) k (rises_keep (ltb k) xs r) (each_above k xs)

-- the last element up to k is at most k
pub last_at_most : (j k : ℕ) (xs : List ℕ) → j ≤ k → last j (at_most k xs) ≤ k
last_at_most j k xs h = each_last (λ x. x ≤ k) (at_most k xs) j h (each_at_most k xs)

-- a set made of the part of s up to k and the part of t above k
pub above_joined_further : (j k : ℕ) (s t : List ℕ) → k ≤ j → above j (at_most k s ++ above k t) ≡ above j t
above_joined_further j k s t h =
    above_append j (at_most k s) (above k t) ∙ rw (above_at_most_none k j s h, above_further k j t h)

-- up to j, where j is at most k, it is s
pub at_most_joined_nearer : (j k : ℕ) (s t : List ℕ) → j ≤ k → at_most j (at_most k s ++ above k t) ≡ at_most j s
at_most_joined_nearer j k s t h =
    at_most_append j (at_most k s) (above k t)
    ∙ rw (at_most_nearer j k s h, at_most_above_none j k t h) (append-nil (at_most j s))

-- at k itself
pub above_joined : (k : ℕ) (s t : List ℕ) → above k (at_most k s ++ above k t) ≡ above k t
above_joined k s t = above_joined_further k k s t (omega arith)

pub at_most_joined : (k : ℕ) (s t : List ℕ) → at_most k (at_most k s ++ above k t) ≡ at_most k s
at_most_joined k s t = at_most_joined_nearer k k s t (omega arith)

-- it rises
pub rising_joined : (j k : ℕ) (s t : List ℕ) → j ≤ k → rising_from j s ≡ true → rises t ≡ true → rising_from j (at_most k s ++ above k t) ≡ true
rising_joined j k s t h r q =
    rising_join (at_most k s) (above k t) j (rising_at_most s j k r)
    (rising_weaker (above k t) (last j (at_most k s)) k (last_at_most j k s h) (rises_above k t q))

-- where x is the first above k, the others above k are those above x
pub rises_next : (xs : List ℕ) (k x : ℕ) (rest : List ℕ) → rises xs ≡ true → above k xs ≡ x ∷ rest → above x xs ≡ rest
rises_next xs k x rest r e =
    let s : rising_from k (x ∷ rest) ≡ true = rw e at (rises_above k xs r) in
    let l : k < x = rising_head x rest k s in
    let q : k ≤ x = omega arith in
    sym (above_further k x xs q) ∙ rw e (above_first x rest k s)
