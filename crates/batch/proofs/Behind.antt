-- No record touches the pairs that `untouched` finds behind a pair.
use Prim.Native.Nat.{ℕ, zero, suc, min, ◌+◌, ◌*◌, ◌-◌, ◌/◌, ◌≤◌, ◌<◌}
use native.Mathlib.Omega.{arith}
use mathlib.Core.Path.{◌≡◌, refl, sym, subst, ◌∙◌}
use mathlib.Core.Bool.{Bool, true, false, cond, ◌||◌, not}
use mathlib.Core.List.{List, [], ◌∷◌}
use lib.ListN.{length, drop, get_or}
use lib.Dec.{ltb, leb, eqb}
use borrow.Author.Tests.{ltb-true, ltb-false, lt-ltb, le-ltb, leb-true, leb-false, le-leb, lt-leb, eqb-true, eqb-false, ne_eqb}
use Rattle.pair.specs.Rank.{rank, term, position, Words}
use Rattle.pair.proofs.Search.{Halved}
use Rattle.batch.specs.declared.Cursor.{Cursor}
use Rattle.batch.specs.Batch.{Update, updates, any_update, covers, removes, adds, latest, withdrawn, batch_number}
use Rattle.batch.specs.code.Rounds.{starts, round_reaches, stands, begun, reached}
use Rattle.batch.specs.code.Search.{record_at, starting_to, added_with, added_of, behind, passed_to, asked, Follows}
use Rattle.batch.specs.code.Untouched.{highest_position, before_record, before_round, untouched, quiet_before}
use Rattle.batch.proofs.Annulling.{rounds_few, begun_most, place_halved}
use Rattle.batch.proofs.Arriving.{latest_none}
use Rattle.batch.proofs.Covering.{any_removes, rounds_reached}
use Rattle.batch.proofs.Decisions.{asked_facts}
use Rattle.batch.proofs.InOrder.{in_order, formed_updates}
use Rattle.batch.proofs.Search.{passed_here}
use Rattle.batch.proofs.Records.{length_updates, update_at, update_end}

-- no record removes the pair, and none adds it
pub record Untouched (us : List Update) (y : ℕ) : Type 0 where
  pub kept : any_update (removes y) us ≡ false
  pub absent : any_update (adds y) us ≡ false

-- so it is not withdrawn
pub untouched_stays_law : {us : List Update} {y : ℕ} → Untouched us y → withdrawn us y ≡ false
unfolding withdrawn
untouched_stays_law {us} {y} n = rw (latest_none (removes y) us n.kept) (le-ltb (latest (adds y) us) 0 (omega arith))

-- a record that starts above a pair is not passed there, nor is one behind it
starting_none : (b : List ℕ) (n y : ℕ) → (n < length b / 5 → y < rank (record_at b n).term (record_at b n).from) → starting_to y (drop n (updates b)) ≡ []
unfolding starting_to
starting_none b n y h = go (ltb n (length b / 5)) refl
  where
    go : (t : Bool) → ltb n (length b / 5) ≡ t → starting_to y (drop n (updates b)) ≡ []
    go true e = let l = ltb-true n (length b / 5) e in rw (update_at b n l, lt-ltb y (rank (record_at b n).term (record_at b n).from) (h l))
    go false e = rw (update_end b n (ltb-false n (length b / 5) e))

-- the last addition at or below a pair
added_most : (us : List Update) (k x : ℕ) → k ≤ x → added_of k (starting_to x us) ≤ x
unfolding added_of starting_to
added_most [] k x h = h
added_most (u ∷ us) k x h = go (ltb x here) refl (eqb u.kind 1) refl (added_most us here x) (added_most us k x)
  where
    here : ℕ
    here = rank u.term u.from

    go : (t : Bool) → ltb x here ≡ t → (s : Bool) → eqb u.kind 1 ≡ s → (here ≤ x → added_of here (starting_to x us) ≤ x) → (k ≤ x → added_of k (starting_to x us) ≤ x) →
        added_of k (cond t [] (u ∷ starting_to x us)) ≤ x
    go true e s f ih jh = h
    go false e true f ih jh = let p : added_with u k ≡ here = unfold added_with in rw f in subst (λ j. added_of j (starting_to x us) ≤ x) (sym p) (ih (ltb-false x here e))
    go false e false f ih jh = let p : added_with u k ≡ k = unfold added_with in rw f in subst (λ j. added_of j (starting_to x us) ≤ x) (sym p) (jh h)

-- a place that is guessed right is found
guessed : (xs : List ℕ) (n j p : ℕ) → j ≤ n → (0 < j → get_or xs (j - 1) 0 ≤ p) → (j < n → p < get_or xs j 0) → begun xs n j p ≡ j
unfolding begun stands
guessed xs n j p h below beyond = rw (le-leb j n h, before (eqb j 0) refl, after (eqb j n) refl)
  where
    before : (s : Bool) → eqb j 0 ≡ s → (s || leb (get_or xs (j - 1) 0) p) ≡ true
    before true e = refl
    before false e = le-leb (get_or xs (j - 1) 0) p (below (omega (arith, eqb-false j 0 e)))

    after : (s : Bool) → eqb j n ≡ s → (s || ltb p (get_or xs j 0)) ≡ true
    after true e = refl
    after false e = lt-ltb p (get_or xs j 0) (beyond (omega (arith, eqb-false j n e)))

module _ {b : List ℕ} {x : ℕ} {k : Cursor} (w : Words b) (f : Follows b x k) (e : batch_number b ≡ 0) (h : 0 < x) where
  abbrev us : List Update
  us = updates b

  abbrev next : ℕ
  next = k.passed.next

  -- a pair behind the pair, with the next record starting above it: no further record is passed up to it
  module _ (y : ℕ) (l : x < y) (ahead : next < length b / 5 → y < rank (record_at b next).term (record_at b next).from) where
    asked_there : asked b y ≡ k.passed
    asked_there = sym (f.passes y (omega arith)) ∙ passed_here us k.passed y (starting_none b next y ahead)

    asked_here : asked b x ≡ k.passed
    asked_here = sym (f.passes x (omega arith)) ∙ passed_here us k.passed x (starting_none b next x (λ m. omega (arith, ahead m)))

    not_added : any_update (adds y) us ≡ false
    not_added =
        let a : (asked b x).added ≤ x = unfold asked passed_to behind in added_most us 0 x (omega arith) in
        sym (asked_facts b y e (omega arith)).1 ∙ rw asked_there (ne_eqb y k.passed.added (omega (arith, rw asked_here at a)))

    not_removed : k.passed.reach < x → any_update (covers 2 y) us ≡ false
    not_removed low = sym (asked_facts b y e (omega arith)).0 ∙ rw asked_there (lt-leb y k.passed.reach (omega arith))

  -- a pair of the same term up to where the next record starts
  ahead_of : (y : ℕ) → x < y → term y ≡ term x → position y ≤ before_record b next x → next < length b / 5 → y < rank (record_at b next).term (record_at b next).from
  unfolding before_record Words
  ahead_of y l t z m =
      go (leb (rank (record_at b next).term (record_at b next).from) x) refl (eqb (record_at b next).term (term x)) refl
      (rw (lt-leb (length b / 5) next m) at z)
    where
      go : (r : Bool) → leb (rank (record_at b next).term (record_at b next).from) x ≡ r → (s : Bool) → eqb (record_at b next).term (term x) ≡ s →
          position y ≤ cond r 0 (cond s ((record_at b next).from - 1) highest_position) → y < rank (record_at b next).term (record_at b next).from
      go true p s q n = absurd (omega arith)
      go false p true q n = omega (arith, leb-false (rank (record_at b next).term (record_at b next).from) x p, eqb-true (record_at b next).term (term x) q)
      go false p false q n =
          omega (arith, leb-false (rank (record_at b next).term (record_at b next).from) x p, eqb-false (record_at b next).term (term x) q, w (next * 5 + 2))

  -- with no rounds none is annulled
  no_rounds : (y : ℕ) → eqb (length (round_reaches us)) 0 ≡ true → any_update (covers 3 (position y)) us ≡ false
  unfolding reached
  no_rounds y p = sym (rounds_reached us (formed_updates b e) (in_order b e).ordered 0 (position y) (omega arith)) ∙ rw none
    where
      none : begun (starts us) (length (round_reaches us)) 0 (position y) ≡ 0
      none = omega (arith, begun_most (starts us) (length (round_reaches us)) 0 (position y), eqb-true (length (round_reaches us)) 0 p)

  -- of any term, before the next record
  pub quiet_behind : (y : ℕ) → x < y → y < quiet_before b (round_reaches us) k x → Untouched us y
  unfolding quiet_before
  quiet_behind y l = go (eqb (length (round_reaches us)) 0) refl (leb x k.passed.reach) refl (leb (length b / 5) next) refl
    where
      is : eqb (length (round_reaches us)) 0 ≡ true → k.passed.reach < x → (next < length b / 5 → y < rank (record_at b next).term (record_at b next).from) → Untouched us y
      is r low a = record { kept = any_removes y us ∙ rw (not_removed y l a low, no_rounds y r); absent = not_added y l a }

      go : (r : Bool) → eqb (length (round_reaches us)) 0 ≡ r → (s : Bool) → leb x k.passed.reach ≡ s → (t : Bool) → leb (length b / 5) next ≡ t →
          y < cond (not r) 0 (cond s 0 (cond t 18446744073709551615 (rank (record_at b next).term (record_at b next).from))) → Untouched us y
      go false p s q t i z = absurd (omega arith)
      go true p true q t i z = absurd (omega arith)
      go true p false q true i z = is p (leb-false x k.passed.reach q) (λ n. absurd (omega (arith, leb-true (length b / 5) next i)))
      go true p false q false i z = is p (leb-false x k.passed.reach q) (λ n. z)

  -- and up to where the next round starts
  module _ (y : ℕ) (l : x < y) (t : term y ≡ term x) where
    abbrev rounds : ℕ
    rounds = length (round_reaches us)

    abbrev sofar : ℕ
    sofar = begun (starts us) rounds k.begun (position x)

    not_annulled : (z : ℕ) → position y ≤ before_round (starts us) (round_reaches us) rounds k.begun (position x) z →
        (position y ≤ z) × (any_update (covers 3 (position y)) us ≡ false)
    unfolding before_round reached
    not_annulled z = go (reached (round_reaches us) sofar (position x)) refl (leb rounds sofar) refl (ltb z (get_or (starts us) sofar 0)) refl
      where
        sought : reached (round_reaches us) (begun (starts us) rounds sofar (position y)) (position y) ≡ any_update (covers 3 (position y)) us
        sought = rounds_reached us (formed_updates b e) (in_order b e).ordered sofar (position y) (omega arith)

        halved : Halved (starts us) (position x) sofar sofar
        halved = place_halved us (formed_updates b e) (in_order b e).ordered k.begun (position x) (omega arith)

        -- those that start at or below the one position are those that do at the other
        same : (sofar < rounds → position y < get_or (starts us) sofar 0) → begun (starts us) rounds sofar (position y) ≡ sofar
        same h =
            guessed (starts us) rounds sofar (position y) (begun_most (starts us) rounds k.begun (position x)) (λ n. omega (arith, halved.below n)) h

        -- where they reach to the one no longer they do not reach to the other
        short : (g : ℕ) → reached (round_reaches us) g (position x) ≡ false → reached (round_reaches us) g (position y) ≡ false
        short zero p = refl
        short (suc g) p = lt-leb (position y) (get_or (round_reaches us) g 0) (omega (arith, leb-false (position x) (get_or (round_reaches us) g 0) p))

        none : reached (round_reaches us) sofar (position x) ≡ false → (sofar < rounds → position y < get_or (starts us) sofar 0) → any_update (covers 3 (position y)) us ≡ false
        none p h = sym sought ∙ rw (same h) (short sofar p)

        go : (r : Bool) → reached (round_reaches us) sofar (position x) ≡ r → (s : Bool) → leb rounds sofar ≡ s → (q : Bool) → ltb z (get_or (starts us) sofar 0) ≡ q →
            position y ≤ cond r 0 (cond s z (cond q z (get_or (starts us) sofar 0 - 1))) → (position y ≤ z) × (any_update (covers 3 (position y)) us ≡ false)
        go true p s i q j m = absurd (omega arith)
        go false p true i q j m = (m, none p (λ n. absurd (omega (arith, leb-true rounds sofar i))))
        go false p false i true j m = (m, none p (λ n. omega (arith, ltb-true z (get_or (starts us) sofar 0) j)))
        go false p false i false j m = let a = ltb-false z (get_or (starts us) sofar 0) j in (omega arith, none p (λ n. omega arith))

    pub untouched_behind : position y ≤ untouched b (round_reaches us) k x → Untouched us y
    unfolding untouched
    untouched_behind = go (leb x k.passed.reach) refl (eqb rounds 0) refl
      where
        most : min rounds (length b / 5) ≡ rounds
        most = omega (arith, rounds_few us 0, length_updates b)

        is : k.passed.reach < x → position y ≤ before_record b next x → any_update (covers 3 (position y)) us ≡ false → Untouched us y
        is low z n =
            let a = ahead_of y l t z in
            record { kept = any_removes y us ∙ rw (not_removed y l a low, n); absent = not_added y l a }

        go : (s : Bool) → leb x k.passed.reach ≡ s → (r : Bool) → eqb rounds 0 ≡ r →
            position y ≤ cond s 0 (cond r (before_record b next x) (before_round (starts us) (round_reaches us) (min rounds (length b / 5)) k.begun (position x) (before_record b next x))) →
            Untouched us y
        go true p r q z = absurd (omega arith)
        go false p true q z = is (leb-false x k.passed.reach p) z (no_rounds y q)
        go false p false q z = let n = not_annulled (before_record b next x) (rw most at z) in is (leb-false x k.passed.reach p) n.0 n.1
