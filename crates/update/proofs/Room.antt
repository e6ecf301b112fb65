-- Number 8 and removals: what a test keeps of the first old block is all due, so that its place is freed or has nothing left to move.
use Prim.Native.Nat.{ℕ, zero, suc, ◌+◌, ◌-◌, ◌≤◌, ◌<◌}
use native.Mathlib.Omega.{arith}
use mathlib.Core.Path.{◌≡◌, refl, sym, ◌∙◌, ap}
use mathlib.Core.Bool.{Bool, true, false, cond, ◌||◌}
use mathlib.Core.List.{List, [], ◌∷◌, ◌++◌}
use mathlib.Core.Logic.{◌⊎◌, inl, inr}
use lib.ListN.{length, drop, length-take, length-drop}
use lib.Dec.{ltb, eqb}
use Rattle.pair.specs.Rank.{Words}
use Rattle.pair.specs.Rising.{keep, above, rising_from, last, any}
use Rattle.pair.proofs.Each.{each_all}
use Rattle.pair.proofs.Keep.{keep_append, keep_swap, keep_all}
use Rattle.pair.proofs.Rising.{rising_first, rising_second, rising_keep, rising_above}
use Rattle.pair.proofs.Parts.{above_append, above_none, above_further}
use Rattle.block.specs.Block.{pairs, due}
use Rattle.block.proofs.Size.{size, size_keep, block_size_law}
use Rattle.block.proofs.Due.{due_high, due_covers}
use Rattle.card.specs.Layout.{block_size, place_at, place, pairs_at}
use Rattle.card.proofs.Live.{place_words}
use Rattle.update.specs.Step.{spent}
use Rattle.update.proofs.Spent.{spent_length}

-- what the test keeps of the pairs at the places above k
abbrev pub Kept : (ℕ → Bool) → List ℕ → ℕ → List ℕ → List ℕ
Kept g c k is = keep g (above k (pairs_at c is))

-- the last of them that is due
abbrev pub Last : (ℕ → Bool) → List ℕ → ℕ → List ℕ → ℕ
Last g c k is = last 0 (due (block_size c) (Kept g c k is))

-- a test that keeps nothing is passed by none
any_none : (f : ℕ → Bool) (xs : List ℕ) → keep f xs ≡ [] → any f xs ≡ false
unfolding keep any
any_none f [] e = refl
any_none f (x ∷ xs) e = go (f x) e (any_none f xs)
  where
    go : (s : Bool) → cond s (x ∷ keep f xs) (keep f xs) ≡ [] → (keep f xs ≡ [] → any f xs ≡ false) → (s || any f xs) ≡ false
    go true h ih = absurd (let z : suc (length (keep f xs)) ≡ 0 = ap length h in omega arith)
    go false h ih = ih h

-- a test and a bound are taken in either order
pub keep_above : (g : ℕ → Bool) (k : ℕ) (xs : List ℕ) → keep g (above k xs) ≡ above k (keep g xs)
unfolding above
keep_above g k xs = keep_swap g (ltb k) xs

pub kept_none : (g : ℕ → Bool) (c : List ℕ) (k : ℕ) → Kept g c k [] ≡ []
unfolding pairs_at keep above
kept_none g c k = refl

kept_cons : (g : ℕ → Bool) (c : List ℕ) (k i : ℕ) (is : List ℕ) → Kept g c k (i ∷ is) ≡ keep g (above k (pairs (place c i))) ++ Kept g c k is
unfolding pairs_at
kept_cons g c k i is = rw (above_append, keep_append)

-- what is kept of the first block fits
kept_size : (g : ℕ → Bool) (c : List ℕ) (k i : ℕ) → Words c → size 0 (keep g (above k (pairs (place c i)))) ≤ block_size c
unfolding above place
kept_size g c k i w =
    omega (
      arith,
      size_keep g 0 (keep (ltb k) (pairs (place c i))),
      size_keep (ltb k) 0 (pairs (place c i)),
      block_size_law (place c i) (place_words c i w),
      length-take (block_size c) (drop (place_at c i) c),
    )

-- nothing is kept of the first of the places above k
abbrev pub FirstDone : (ℕ → Bool) → List ℕ → ℕ → List ℕ → Type 0
FirstDone g c k [] = ⊥
FirstDone g c k (i ∷ is) = keep g (above k (pairs (place c i))) ≡ []

-- of m places those after the places is and n others: two are free, or one, and nothing is kept of the first of is
abbrev pub Room : (ℕ → Bool) → List ℕ → ℕ → List ℕ → ℕ → ℕ → Type 0
Room g c k is n m = (length is + n + 2 ≤ m) ⊎ FirstDone g c k is

pub at_most_one : (s : Bool) → cond s 0 1 ≤ 1
at_most_one true = omega arith
at_most_one false = omega arith

module _ (g : ℕ → Bool) (c : List ℕ) (k : ℕ) (w : Words c) (low : 3 ≤ block_size c) where
  kept_rising : (is : List ℕ) (j : ℕ) → rising_from j (pairs_at c is) ≡ true → rising_from k (Kept g c k is) ≡ true
  kept_rising is j r = rising_keep g (above k (pairs_at c is)) k (rising_above (pairs_at c is) j k r)

  -- what is kept of the first block is due: nothing of it stays above the last due pair
  first_moves : (i : ℕ) (is : List ℕ) (j : ℕ) → rising_from j (pairs_at c (i ∷ is)) ≡ true → 0 < length (Kept g c k (i ∷ is)) →
      keep g (above (Last g c k (i ∷ is)) (pairs (place c i))) ≡ []
  first_moves i is j r s =
      let rises : rising_from k (Kept g c k (i ∷ is)) ≡ true = kept_rising (i ∷ is) j r in
      let past : k ≤ Last g c k (i ∷ is) = due_high (block_size c) k (Kept g c k (i ∷ is)) low s rises in
      ap (keep g) (sym (above_further k (Last g c k (i ∷ is)) (pairs (place c i)) past))
      ∙ keep_above g (Last g c k (i ∷ is)) (above k (pairs (place c i)))
      ∙ rw (kept_cons g c k i is) (due_covers (block_size c) k (keep g (above k (pairs (place c i)))) (Kept g c k is) low (kept_size g c k i w) (rw (kept_cons g c k i is) at s) (rw (kept_cons g c k i is) at rises))

  -- where nothing is kept of the first block, all that is due lies above its pairs
  first_passed : (i : ℕ) (is : List ℕ) (j : ℕ) → rising_from j (pairs_at c (i ∷ is)) ≡ true → 0 < length (Kept g c k (i ∷ is)) →
      keep g (above k (pairs (place c i))) ≡ [] → above (Last g c k (i ∷ is)) (pairs (place c i)) ≡ []
  unfolding pairs_at above
  first_passed i is j r s e =
      let p : List ℕ = pairs (place c i) in
      let rest : Kept g c k (i ∷ is) ≡ Kept g c k is = rw (kept_cons g c k i is, e) in
      let rises : rising_from (last j p) (Kept g c k is) ≡ true
      = rising_keep g (above k (pairs_at c is)) (last j p) (rising_keep (ltb k) (pairs_at c is) (last j p) (rising_second p (pairs_at c is) j r)) in
      above_none p (Last g c k (i ∷ is)) j (rising_first p (pairs_at c is) j r)
      (rw rest (due_high (block_size c) (last j p) (Kept g c k is) low (rw rest at s) rises))

  -- with nothing kept of its first block, the first place is spent
  done_spent : (i : ℕ) (is : List ℕ) (j : ℕ) → rising_from j (pairs_at c (i ∷ is)) ≡ true → 0 < length (Kept g c k (i ∷ is)) →
      FirstDone g c k (i ∷ is) → 1 ≤ spent c (Last g c k (i ∷ is)) (i ∷ is)
  unfolding spent above
  done_spent i is j r s e =
      rw (any_none (ltb (Last g c k (i ∷ is))) (pairs (place c i)) (first_passed i is j r s e)) (omega arith)

  -- and what is kept of the next block is all due
  done_next : (i : ℕ) (is : List ℕ) (j : ℕ) → rising_from j (pairs_at c (i ∷ is)) ≡ true → 0 < length (Kept g c k (i ∷ is)) →
      FirstDone g c k (i ∷ is) → FirstDone g c (Last g c k (i ∷ is)) is
  unfolding pairs_at
  done_next i is j r s e = go is (rising_second (pairs (place c i)) (pairs_at c is) j r) (rw (kept_cons g c k i is, e)) s
    where
      go : (os : List ℕ) → rising_from (last j (pairs (place c i))) (pairs_at c os) ≡ true → Kept g c k (i ∷ os) ≡ Kept g c k os →
          0 < length (Kept g c k (i ∷ os)) → FirstDone g c (Last g c k (i ∷ os)) os
      go [] v h l = absurd (let z : 0 < 0 = rw (h ∙ kept_none g c k) at l in omega arith)
      go (o ∷ os) v h l = rw h (first_moves o os (last j (pairs (place c i))) v (rw h at l))

  -- where every pair is kept the first place is spent
  pub whole_spent : (i : ℕ) (is : List ℕ) (j : ℕ) → ((x : ℕ) → g x ≡ true) → rising_from j (pairs_at c (i ∷ is)) ≡ true →
      0 < length (Kept g c k (i ∷ is)) → 1 ≤ spent c (Last g c k (i ∷ is)) (i ∷ is)
  unfolding spent above
  whole_spent i is j a r s =
      let k : ℕ = Last g c k (i ∷ is) in
      let none : above k (pairs (place c i)) ≡ []
      = rw (keep_all g (above k (pairs (place c i))) (each_all _ a (above k (pairs (place c i))))) at (first_moves i is j r s) in
      rw (any_none (ltb k) (pairs (place c i)) none) (omega arith)

  -- a write that goes on leaves a place free, and Room again
  pub room_next : (is : List ℕ) (n m j : ℕ) → rising_from j (pairs_at c is) ≡ true → 0 < length (Kept g c k is) → length is + n < m →
      Room g c k is n m →
      (length is - spent c (Last g c k is) is + (n + 1) < m)
      × Room g c (Last g c k is) (drop (spent c (Last g c k is) is) is) (n + 1) m
  room_next [] n m j r s f h = absurd (let z : 0 < 0 = rw (kept_none g c k) at s in omega arith)
  room_next (i ∷ is) n m j r s f (inl two) = go (spent c (Last g c k (i ∷ is)) (i ∷ is)) refl (spent_length c (Last g c k (i ∷ is)) (i ∷ is))
    where
      go : (p : ℕ) → spent c (Last g c k (i ∷ is)) (i ∷ is) ≡ p → p ≤ length (i ∷ is) →
          (length (i ∷ is) - p + (n + 1) < m) × Room g c (Last g c k (i ∷ is)) (drop p (i ∷ is)) (n + 1) m
      go zero e l = (omega arith, inr (first_moves i is j r s))
      go (suc p) e l = (omega arith, inl (rw (length-drop p is) (omega arith)))
  room_next (i ∷ is) n m j r s f (inr done) =
      go (spent c (Last g c k (i ∷ is)) (i ∷ is)) (done_spent i is j r s done) (spent_length c (Last g c k (i ∷ is)) (i ∷ is))
    where
      go : (p : ℕ) → 1 ≤ p → p ≤ length (i ∷ is) →
          (length (i ∷ is) - p + (n + 1) < m) × Room g c (Last g c k (i ∷ is)) (drop p (i ∷ is)) (n + 1) m
      go zero l h = absurd (omega arith)
      go (suc zero) l h = (omega arith, inr (done_next i is j r s done))
      go (suc (suc p)) l h = (omega arith, inl (rw (length-drop (suc p) is) (omega arith)))

-- a write that finishes leaves two places free
pub room_last : (g : ℕ → Bool) (c : List ℕ) (k : ℕ) (is : List ℕ) (n m : ℕ) → length is + n < m → Room g c k is n m →
    n + cond (eqb (length (Kept g c k is)) 0) 0 1 + 2 ≤ m
room_last g c k [] n m f (inl two) = rw (kept_none g c k) (omega arith)
room_last g c k [] n m f (inr done) = absurd done
room_last g c k (i ∷ is) n m f (inl two) = omega (arith, at_most_one (eqb (length (Kept g c k (i ∷ is))) 0))
room_last g c k (i ∷ []) n m f (inr done) = rw (kept_cons g c k i [], done, kept_none g c k) (omega arith)
room_last g c k (i ∷ o ∷ os) n m f (inr done) = omega (arith, at_most_one (eqb (length (Kept g c k (i ∷ o ∷ os))) 0))
