-- Rising lists: where they start, where they end, and what keeps them rising.
use Prim.Native.Nat.{ℕ, ◌≤◌, ◌<◌}
use mathlib.Core.Path.{◌≡◌, refl, sym}
use mathlib.Core.Bool.{Bool, true, false, cond, ◌&&◌, ◌||◌, and_assoc}
use mathlib.Core.Logic.{◌≢◌}
use mathlib.Core.List.{List, [], ◌∷◌, ◌++◌}
use lib.ListN.{length, take, drop, take-append-drop}
use lib.Dec.{ltb, eqb}
use native.Mathlib.Omega.{arith}
use borrow.Author.Tests.{ltb-true, ltb-false, eqb-false, lt-ltb, le-ltb}
use Rattle.pair.specs.Rising.{Each, keep, above, rising_from, insert, last, any}
use Rattle.pair.proofs.Tests.{and_left, and_right, and_both}

-- a rising list begins with a number above its start, and goes on rising from there
pub rising_head : (x : ℕ) (xs : List ℕ) (k : ℕ) → rising_from k (x ∷ xs) ≡ true → k < x
unfolding rising_from
rising_head x xs k r = ltb-true k x (and_left (ltb k x) (rising_from x xs) r)

pub rising_tail : (x : ℕ) (xs : List ℕ) (k : ℕ) → rising_from k (x ∷ xs) ≡ true → rising_from x xs ≡ true
unfolding rising_from
rising_tail x xs k r = and_right (ltb k x) (rising_from x xs) r

pub rising_cons : (x : ℕ) (xs : List ℕ) (k : ℕ) → k < x → rising_from x xs ≡ true → rising_from k (x ∷ xs) ≡ true
unfolding rising_from
rising_cons x xs k h r = and_both (ltb k x) (rising_from x xs) (lt-ltb k x h) r

-- it also rises from any lower start
pub rising_weaker : (xs : List ℕ) (j k : ℕ) → j ≤ k → rising_from k xs ≡ true → rising_from j xs ≡ true
unfolding rising_from
rising_weaker [] j k h r = refl
rising_weaker (x ∷ xs) j k h r =
    let l : k < x = rising_head x xs k r in rising_cons x xs j (omega arith) (rising_tail x xs k r)

-- two lists in a row rise where the first does, and the second from the first's last element
pub rising_append : (xs ys : List ℕ) (k : ℕ) → rising_from k (xs ++ ys) ≡ (rising_from k xs && rising_from (last k xs) ys)
unfolding rising_from last
rising_append [] ys k = refl
rising_append (x ∷ xs) ys k = rw (rising_append xs ys x) (sym (and_assoc (ltb k x) (rising_from x xs) (rising_from (last x xs) ys)))

-- each of the two, and both together
pub rising_first : (xs ys : List ℕ) (k : ℕ) → rising_from k (xs ++ ys) ≡ true → rising_from k xs ≡ true
rising_first xs ys k r = and_left (rising_from k xs) (rising_from (last k xs) ys) (rw (rising_append xs ys k) at r)

pub rising_second : (xs ys : List ℕ) (k : ℕ) → rising_from k (xs ++ ys) ≡ true → rising_from (last k xs) ys ≡ true
rising_second xs ys k r = and_right (rising_from k xs) (rising_from (last k xs) ys) (rw (rising_append xs ys k) at r)

pub rising_join : (xs ys : List ℕ) (k : ℕ) → rising_from k xs ≡ true → rising_from (last k xs) ys ≡ true → rising_from k (xs ++ ys) ≡ true
rising_join xs ys k r s = rw (rising_append xs ys k) (and_both (rising_from k xs) (rising_from (last k xs) ys) r s)

-- a rising list ends at its start or above it
pub rising_last : (xs : List ℕ) (k : ℕ) → rising_from k xs ≡ true → k ≤ last k xs
unfolding last
rising_last [] k r = omega arith
rising_last (x ∷ xs) k r =
    let l : k < x = rising_head x xs k r in
    let m : x ≤ last x xs = rising_last xs x (rising_tail x xs k r) in
    omega arith

-- and above it where it has an element
pub rising_last_above : (xs : List ℕ) (k d : ℕ) → 0 < length xs → rising_from k xs ≡ true → k < last d xs
unfolding last
rising_last_above [] k d h r = absurd (omega arith)
rising_last_above (x ∷ xs) k d h r =
    let l : k < x = rising_head x xs k r in
    let m : x ≤ last x xs = rising_last xs x (rising_tail x xs k r) in
    omega arith

-- parts of a rising list rise
pub rising_take : (n : ℕ) (xs : List ℕ) (k : ℕ) → rising_from k xs ≡ true → rising_from k (take n xs) ≡ true
rising_take n xs k r = rising_first (take n xs) (drop n xs) k (rw (take-append-drop n xs) r)

-- what follows a beginning rises from its last element
pub rising_rest : (n : ℕ) (xs : List ℕ) (k : ℕ) → rising_from k xs ≡ true → rising_from (last k (take n xs)) (drop n xs) ≡ true
rising_rest n xs k r = rising_second (take n xs) (drop n xs) k (rw (take-append-drop n xs) r)

-- so does what a test keeps
pub rising_keep : (f : ℕ → Bool) (xs : List ℕ) (k : ℕ) → rising_from k xs ≡ true → rising_from k (keep f xs) ≡ true
unfolding keep rising_from
rising_keep f [] k r = refl
rising_keep f (x ∷ xs) k r = go (f x) (rising_keep f xs x (rising_tail x xs k r))
  where
    go : (t : Bool) → rising_from x (keep f xs) ≡ true → rising_from k (cond t (x ∷ keep f xs) (keep f xs)) ≡ true
    go true ih = rising_cons x (keep f xs) k (rising_head x xs k r) ih
    go false ih = let l : k < x = rising_head x xs k r in rising_weaker (keep f xs) k x (omega arith) ih

-- what is above a number rises from there
pub rising_above : (xs : List ℕ) (j k : ℕ) → rising_from j xs ≡ true → rising_from k (above k xs) ≡ true
unfolding above keep rising_from
rising_above [] j k r = refl
rising_above (x ∷ xs) j k r = go (ltb k x) refl (rising_above xs x k (rising_tail x xs j r))
  where
    go : (t : Bool) → ltb k x ≡ t → rising_from k (above k xs) ≡ true → rising_from k (cond t (x ∷ above k xs) (above k xs)) ≡ true
    go true e ih = rising_cons x (above k xs) k (ltb-true k x e) (rising_keep (ltb k) xs x (rising_tail x xs j r))
    go false e ih = ih

-- so does the list with a number above its start put in
pub rising_insert : (n : ℕ) (xs : List ℕ) (k : ℕ) → k < n → rising_from k xs ≡ true → rising_from k (insert n xs) ≡ true
unfolding insert rising_from
rising_insert n [] k h r = rising_cons n [] k h refl
rising_insert n (x ∷ xs) k h r = go (ltb n x) (eqb n x) refl refl (λ l. rising_insert n xs x l (rising_tail x xs k r))
  where
    go : (s t : Bool) → ltb n x ≡ s → eqb n x ≡ t → (x < n → rising_from x (insert n xs) ≡ true)
        → rising_from k (cond s (n ∷ x ∷ xs) (cond t (x ∷ xs) (x ∷ insert n xs))) ≡ true
    go true t e f ih = rising_cons n (x ∷ xs) k h (rising_cons x xs n (ltb-true n x e) (rising_tail x xs k r))
    go false true e f ih = r
    go false false e f ih =
        let l : x ≤ n = ltb-false n x e in
        let d : n ≢ x = eqb-false n x f in
        rising_cons x (insert n xs) k (rising_head x xs k r) (ih (omega arith))

-- the last element
pub last_append : (xs ys : List ℕ) (d : ℕ) → last d (xs ++ ys) ≡ last (last d xs) ys
unfolding last
last_append [] ys d = refl
last_append (x ∷ xs) ys d = last_append xs ys x

-- a list that rises, from wherever it begins
unfoldable pub rises : List ℕ → Bool
rises [] = true
rises (x ∷ xs) = rising_from x xs

-- a list that rises from a start rises
pub rises_from : (xs : List ℕ) (k : ℕ) → rising_from k xs ≡ true → rises xs ≡ true
unfolding rises
rises_from [] k r = refl
rises_from (x ∷ xs) k r = rising_tail x xs k r

pub rises_tail : (x : ℕ) (xs : List ℕ) → rises (x ∷ xs) ≡ true → rises xs ≡ true
unfolding rises
rises_tail x xs r = rises_from xs x r

-- what keeps such a list rising
pub rises_keep : (f : ℕ → Bool) (xs : List ℕ) → rises xs ≡ true → rises (keep f xs) ≡ true
unfolding rises keep
rises_keep f [] r = refl
rises_keep f (x ∷ xs) r = go (f x)
  where
    go : (t : Bool) → rises (cond t (x ∷ keep f xs) (keep f xs)) ≡ true
    go true = rising_keep f xs x r
    go false = rises_from (keep f xs) x (rising_keep f xs x r)

pub rises_insert : (n : ℕ) (xs : List ℕ) → rises xs ≡ true → rises (insert n xs) ≡ true
unfolding rises insert rising_from
rises_insert n [] r = refl
rises_insert n (x ∷ xs) r = go (ltb n x) (eqb n x) refl refl
  where
    go : (s t : Bool) → ltb n x ≡ s → eqb n x ≡ t → rises (cond s (n ∷ x ∷ xs) (cond t (x ∷ xs) (x ∷ insert n xs))) ≡ true
    go true t e f = rising_cons x xs n (ltb-true n x e) r
    go false true e f = r
    go false false e f =
        let l : x ≤ n = ltb-false n x e in
        let d : n ≢ x = eqb-false n x f in
        rising_insert n xs x (omega arith) r

-- a rising list whose elements are above k rises from k
pub rises_rising : (xs : List ℕ) (k : ℕ) → rises xs ≡ true → Each (λ x. k < x) xs → rising_from k xs ≡ true
unfolding rises rising_from
rises_rising [] k r a = refl
rises_rising (x ∷ xs) k r a = rising_cons x xs k a.0 r

-- of a list that is not empty the last element does not depend on what stands for none
pub last_some : (xs : List ℕ) (d e : ℕ) → 0 < length xs → last d xs ≡ last e xs
unfolding last
last_some [] d e h = absurd (omega arith)
last_some (x ∷ xs) d e h = refl

-- a rising list has an element above k exactly where its last is above k
pub any_last : (xs : List ℕ) (j k : ℕ) → rising_from j xs ≡ true → j ≤ k → any (ltb k) xs ≡ ltb k (last j xs)
unfolding any last
any_last [] j k r h = sym (le-ltb k j h)
any_last (x ∷ xs) j k r h = go (ltb k x) refl (any_last xs x k (rising_tail x xs j r))
  where
    go : (t : Bool) → ltb k x ≡ t → (x ≤ k → any (ltb k) xs ≡ ltb k (last x xs)) → (t || any (ltb k) xs) ≡ ltb k (last x xs)
    go true e ih =
        let l : k < x = ltb-true k x e in
        sym (lt-ltb k (last x xs) (omega (arith, rising_last xs x (rising_tail x xs j r))))
    go false e ih = ih (ltb-false k x e)
