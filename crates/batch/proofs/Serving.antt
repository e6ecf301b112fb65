-- The removal in hand: what it promises of pairs to come, with further records passed and sought anew.
use Prim.Native.Nat.{ℕ, zero, suc, max, ◌+◌, ◌-◌, ◌≤◌}
use native.Mathlib.Omega.{arith}
use mathlib.Core.Path.{◌≡◌, refl, sym, ap, ◌∙◌}
use mathlib.Core.Bool.{Bool, true, false, cond, ◌&&◌}
use mathlib.Core.List.{List, [], ◌∷◌, ◌++◌}
use lib.ListN.{length, take, drop}
use lib.Seq.{take-take}
use lib.Dec.{ltb, leb, eqb}
use borrow.Author.Tests.{ltb-true, ltb-false, le-leb, lt-leb, leb-false}
use Rattle.pair.specs.Rank.{rank}
use Rattle.pair.proofs.Tests.{and_left, and_both}
use Rattle.batch.specs.declared.Latest.{Latest}
use Rattle.batch.specs.Batch.{Update, latest}
use Rattle.batch.specs.code.Search.{starting_to, removals_with, removals_of, reaches_to, latest_with, latest_of, Serves}

-- a removal that does not reach to a pair does not reach to a later one
short : (x y : ℕ) (u : Update) → x ≤ y → reaches_to x u ≡ false → reaches_to y u ≡ false
unfolding reaches_to
short x y u h = go (eqb u.kind 2)
  where
    go : (k : Bool) → (k && leb x (rank u.term u.to)) ≡ false → (k && leb y (rank u.term u.to)) ≡ false
    go true e = lt-leb y (rank u.term u.to) (omega (arith, leb-false x (rank u.term u.to) e))
    go false e = refl

-- the removal in hand, with one more passed at the pair x, and with further ones
serves_with : (m : ℕ → ℕ) (x : ℕ) (l : Latest) (u : Update) → Serves m x l → Serves (λ y. max (m y) (cond (reaches_to y u) u.arrival 0)) x (latest_with x u l)
unfolding latest_with
serves_with m x l u s = go (reaches_to x u) refl (ltb l.arrival u.arrival) refl
  where
    high : ℕ
    high = rank u.term u.to

    few : (t : Bool) → cond t u.arrival 0 ≤ u.arrival
    few true = omega arith
    few false = omega arith

    far : (y : ℕ) → reaches_to x u ≡ true → y ≤ high → reaches_to y u ≡ true
    far y e h = unfold reaches_to in and_both (eqb u.kind 2) (leb y high) (and_left (eqb u.kind 2) (leb x high) e) (le-leb y high h)

    go : (r : Bool) → reaches_to x u ≡ r → (t : Bool) → ltb l.arrival u.arrival ≡ t →
        Serves (λ y. max (m y) (cond (reaches_to y u) u.arrival 0)) x (cond (r && t) (record { reach = high; arrival = u.arrival }) l)
    go true e true f =
        let n = ltb-true l.arrival u.arrival f in
        record {
          most = λ y h. omega (arith, s.most y h, few (reaches_to y u));
          just = λ y h k. rw (far y e k) (omega (arith, s.most y h));
        }
    go true e false f =
        let n = ltb-false l.arrival u.arrival f in
        record {
          most = λ y h. omega (arith, s.most y h, few (reaches_to y u));
          just = λ y h k. omega (arith, s.just y h k, few (reaches_to y u));
        }
    go false e t f =
        record {
          most = λ y h. rw (short x y u h e) (omega (arith, s.most y h));
          just = λ y h k. rw (short x y u h e) (omega (arith, s.just y h k));
        }

pub serves_same : {m n : ℕ → ℕ} {x : ℕ} {l : Latest} → ((y : ℕ) → n y ≡ m y) → Serves m x l → Serves n x l
serves_same e s = record { most = λ y h. rw (e y) (s.most y h); just = λ y h k. rw (e y) (s.just y h k) }

pub serves_further : (us : List Update) (m : ℕ → ℕ) (x : ℕ) (l : Latest) → Serves m x l → Serves (λ y. max (m y) (latest (reaches_to y) us)) x (latest_of x l us)
unfolding latest latest_of
serves_further [] m x l s = serves_same (λ y. omega arith) s
serves_further (u ∷ us) m x l s =
    serves_same (λ y. more (reaches_to y u) (m y) (latest (reaches_to y) us))
    (serves_further us (λ y. max (m y) (cond (reaches_to y u) u.arrival 0)) x (latest_with x u l) (serves_with m x l u s))
  where
    more : (t : Bool) (a n : ℕ) → max a (cond t (max u.arrival n) n) ≡ max (max a (cond t u.arrival 0)) n
    more true a n = omega arith
    more false a n = omega arith

-- the greatest arrival number that the search finds
pub latest_found : (us : List Update) (x : ℕ) (l : Latest) → (latest_of x l us).arrival ≡ max l.arrival (latest (reaches_to x) us)
unfolding latest latest_of latest_with
latest_found [] x l = omega arith
latest_found (u ∷ us) x l = latest_found us x (latest_with x u l) ∙ go (reaches_to x u) (ltb l.arrival u.arrival) refl
  where
    go : (r t : Bool) → ltb l.arrival u.arrival ≡ t →
        max (cond (r && t) (record { reach = rank u.term u.to; arrival = u.arrival }) l).arrival (latest (reaches_to x) us)
        ≡ max l.arrival (cond r (max u.arrival (latest (reaches_to x) us)) (latest (reaches_to x) us))
    go true true e = omega (arith, ltb-true l.arrival u.arrival e)
    go true false e = omega (arith, ltb-false l.arrival u.arrival e)
    go false t e = refl

-- behind the last removal there is none
removals_within : (us : List Update) (n k : ℕ) → k ≤ n → (k ≤ removals_of n k us) × (removals_of n k us ≤ n + length us)
unfolding removals_of removals_with
removals_within [] n k h = (omega arith, omega arith)
removals_within (u ∷ us) n k h = go (eqb u.kind 2) (removals_within us (n + 1) (n + 1) (omega arith)) (removals_within us (n + 1) k (omega arith))
  where
    Within : ℕ → ℕ → Type 0
    Within j m = (j ≤ removals_of (n + 1) j us) × (removals_of (n + 1) j us ≤ m + length us)

    go : (t : Bool) → Within (n + 1) (n + 1) → Within k (n + 1) →
        (k ≤ removals_of (n + 1) (cond t (n + 1) k) us) × (removals_of (n + 1) (cond t (n + 1) k) us ≤ n + suc (length us))
    go true a b = (omega (arith, a.0), omega (arith, a.1))
    go false a b = (b.0, omega (arith, b.1))

latest_removals :
    (f : Update → Bool) → ((u : Update) → eqb u.kind 2 ≡ false → f u ≡ false) → (us : List Update) (n k : ℕ) → k ≤ n →
    latest f (take (removals_of n k us - n) us) ≡ latest f us
unfolding removals_of removals_with latest
latest_removals f p [] n k h = let e : k - n ≡ 0 = omega arith in rw e
latest_removals f p (u ∷ us) n k h = go (eqb u.kind 2) refl (ltb n m) refl (latest_removals f p us (n + 1) found (most (eqb u.kind 2)))
  where
    most : (t : Bool) → cond t (n + 1) k ≤ n + 1
    most true = omega arith
    most false = omega arith

    found : ℕ
    found = cond (eqb u.kind 2) (n + 1) k

    m : ℕ
    m = removals_of (n + 1) found us

    go : (t : Bool) → eqb u.kind 2 ≡ t → (l : Bool) → ltb n m ≡ l → latest f (take (m - (n + 1)) us) ≡ latest f us →
        latest f (take (m - n) (u ∷ us)) ≡ cond (f u) (max u.arrival (latest f us)) (latest f us)
    go t i true j ih = let e : m - n ≡ suc (m - (n + 1)) = omega (arith, ltb-true n m j) in rw (e, ih)
    go true i false j ih =
        let low : found ≤ m = (removals_within us (n + 1) found (most (eqb u.kind 2))).0 in
        let is : found ≡ n + 1 = rw i in
        absurd (omega (arith, low, is, ltb-false n m j))
    go false i false j ih =
        let l = ltb-false n m j in
        let e : m - n ≡ 0 = omega arith in
        let g : m - (n + 1) ≡ 0 = omega arith in
        rw (e, p u i) (rw g at ih)

-- the updates passed are the first ones
pub take_starting : (us : List Update) (x : ℕ) → take (length (starting_to x us)) us ≡ starting_to x us
unfolding starting_to
take_starting [] x = refl
take_starting (u ∷ us) x = go (ltb x (rank u.term u.from)) (take_starting us x)
  where
    go : (t : Bool) → take (length (starting_to x us)) us ≡ starting_to x us →
        take (length (cond t [] (u ∷ starting_to x us))) (u ∷ us) ≡ cond t [] (u ∷ starting_to x us)
    go true ih = refl
    go false ih = rw ih

pub take_further : (n : ℕ) (us : List Update) (x : ℕ) →
    take (n + length (starting_to x (drop n us))) us ≡ take n us ++ starting_to x (drop n us)
take_further zero us x = let e : 0 + length (starting_to x us) ≡ length (starting_to x us) = omega arith in rw e (take_starting us x)
take_further (suc n) [] x = unfold starting_to in let e : suc n + 0 ≡ suc n = omega arith in rw e
take_further (suc n) (u ∷ us) x = let e : suc n + length (starting_to x (drop n us)) ≡ suc (n + length (starting_to x (drop n us))) = omega arith in rw (e, take_further n us x)

-- the removals among the updates passed stand among the first of all
pub first_removals : (us : List Update) (x y : ℕ) → latest (reaches_to y) (take (removals_of 0 0 (starting_to x us)) us) ≡ latest (reaches_to y) (starting_to x us)
first_removals us x y =
    let ws = starting_to x us in
    let m = removals_of 0 0 ws in
    let few : m ≤ length ws = omega (arith, (removals_within ws 0 0 (omega arith)).1) in
    let all : m - 0 ≡ m = omega arith in
    let same : take m ws ≡ take m us = ap (take m) (sym (take_starting us x)) ∙ take-take m (length ws) us few in
    ap (latest (reaches_to y)) (sym same) ∙ rw all at (latest_removals (reaches_to y) (λ u i. unfold reaches_to in rw i) ws 0 0 (omega arith))
