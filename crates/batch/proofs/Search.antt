-- The walks over the records of a batch: the next addition, and whether a pair is withdrawn.
use Prim.Native.Nat.{ℕ, zero, suc, max, ◌+◌, ◌≤◌, ◌<◌}
use native.Mathlib.Nat.{add-zero}
use native.Mathlib.Omega.{arith}
use mathlib.Core.Path.{◌≡◌, refl, sym, ◌∙◌}
use mathlib.Core.Bool.{Bool, true, false, cond, ◌&&◌, false≢true}
use mathlib.Core.List.{List, [], ◌∷◌}
use lib.ListN.{length, drop}
use lib.Dec.{ltb, eqb}
use borrow.Author.Tests.{ltb-true, ltb-false, le-ltb, lt-ltb, eqb-true}
use Rattle.std.specs.Prelude.{Some, None}
use Rattle.std.specs.Option.{unwrap_or}
use Rattle.pair.specs.Rank.{rank}
use Rattle.pair.proofs.Tests.{and_left, and_right, or_left, or_right, or_both, and_both, not_holds}
use Rattle.batch.specs.declared.Cursor.{Cursor}
use Rattle.batch.specs.declared.Passed.{Passed}
use Rattle.batch.specs.Batch.{Update, updates, falls}
use Rattle.batch.specs.declared.reading.Kind.TheVariants.{Adds, Removes, Annuls}
use Rattle.batch.specs.code.Records.{kind_of}
use Rattle.batch.specs.code.Search.{lesser, least_added, adds_above, first_added, before_added, next_addition, starting_to, rounds_with, rounds_of, removals_with, removals_of, reach_with, reach_of, added_with, added_of, arrived_with, arrived_of, latest_with, latest_of, behind, further, passed_to, passing}
use Rattle.batch.proofs.Merge.{least_added_first}

-- the search for an addition from a record on finds what the search from the record n on finds
pub seeks_turn :
    (b : List ℕ) (k n : ℕ) (u : Update) → drop n (updates b) ≡ u ∷ drop (n + 1) (updates b) → adds_above k u ≡ false → next_addition b n k ≡ next_addition b (n + 1) k
unfolding next_addition first_added before_added
seeks_turn b k n u h e =
    let more : n + suc (before_added k (drop (n + 1) (updates b))) ≡ n + 1 + before_added k (drop (n + 1) (updates b)) = omega arith in
    rw (h, e, more)

pub seeks_found :
    (b : List ℕ) (k n : ℕ) (u : Update) → drop n (updates b) ≡ u ∷ drop (n + 1) (updates b) → adds_above k u ≡ true →
    next_addition b n k ≡ record { at = n; rank = Some (rank u.term u.from) }
unfolding next_addition first_added before_added
seeks_found b k n u h e = rw (h, e, add-zero)

pub seeks_end : (b : List ℕ) (k n : ℕ) → drop n (updates b) ≡ [] → next_addition b n k ≡ record { at = n; rank = None }
unfolding next_addition first_added before_added
seeks_end b k n h = rw (h, add-zero)

-- what is in order from x on is in order from any lower number on, and so is the rest of it
pub falls_lower : (us : List Update) (x y : ℕ) → y ≤ x → falls x us ≡ false → falls y us ≡ false
unfolding falls
falls_lower [] x y h e = refl
falls_lower (u ∷ us) x y h e =
    let here = rank u.term u.from in
    let l : x ≤ here = ltb-false here x (or_left (ltb here x) (falls here us) e) in
    or_both (ltb here y) (falls here us) (le-ltb here y (omega arith)) (or_right (ltb here x) (falls here us) e)

pub falls_drop : (n : ℕ) (us : List Update) (x : ℕ) → falls x us ≡ false → falls 0 (drop n us) ≡ false
unfolding falls
falls_drop zero us x e = falls_lower us x 0 (omega arith) e
falls_drop (suc n) [] x e = refl
falls_drop (suc n) (u ∷ us) x e = falls_drop n us (rank u.term u.from) (or_right (ltb (rank u.term u.from) x) (falls (rank u.term u.from) us) e)

-- in a batch in order the first addition above k is the least
pub first_added_least : (us : List Update) (x k : ℕ) → falls x us ≡ false → unwrap_or (first_added k us) 0 ≡ least_added k us
unfolding first_added falls adds_above
first_added_least [] x k e = unfold least_added in refl
first_added_least (u ∷ us) x k e =
    let here = rank u.term u.from in
    let o : falls here us ≡ false = or_right (ltb here x) (falls here us) e in
    rw (least_added_first u us k o, ← first_added_least us here k o) (go (eqb u.kind 1 && ltb k here))
  where
    go : (t : Bool) → unwrap_or (cond t (Some (rank u.term u.from)) (first_added k us)) 0 ≡ cond t (rank u.term u.from) (unwrap_or (first_added k us) 0)
    go true = refl
    go false = refl

-- the updates before it add nothing above k, nor above any j from k on
pub least_added_before : (us : List Update) (k j : ℕ) → k ≤ j → least_added j us ≡ least_added j (drop (before_added k us) us)
unfolding least_added before_added adds_above
least_added_before [] k j h = refl
least_added_before (u ∷ us) k j h = go (eqb u.kind 1 && ltb k here) refl (least_added_before us k j h)
  where
    here : ℕ
    here = rank u.term u.from

    low : (eqb u.kind 1 && ltb k here) ≡ false → (eqb u.kind 1 && ltb j here) ≡ false
    low e = not_holds (eqb u.kind 1 && ltb j here) (λ f.
        let l : j < here = ltb-true j here (and_right (eqb u.kind 1) (ltb j here) f) in
        false≢true (sym e ∙ and_both (eqb u.kind 1) (ltb k here) (and_left (eqb u.kind 1) (ltb j here) f) (lt-ltb k here (omega arith))))

    go : (t : Bool) → (eqb u.kind 1 && ltb k here) ≡ t → least_added j us ≡ least_added j (drop (before_added k us) us)
        → cond (eqb u.kind 1 && ltb j here) (lesser here (least_added j us)) (least_added j us)
        ≡ least_added j (drop (cond t 0 (suc (before_added k us))) (u ∷ us))
    go true e ih = refl
    go false e ih = rw (low e) ih

-- the numbers of the kinds
pub number_adds : (n : ℕ) → kind_of n ≡ Some Adds → n ≡ 1
number_adds n e = go (eqb n 1) refl (eqb n 2) (eqb n 3) e
  where
    go : (r : Bool) → eqb n 1 ≡ r → (s t : Bool) → cond r (Some Adds) (cond s (Some Removes) (cond t (Some Annuls) None)) ≡ Some Adds → n ≡ 1
    go true f s t e = eqb-true n 1 f
    go false f true t e = absurd cc
    go false f false true e = absurd cc
    go false f false false e = absurd cc

pub number_removes : (n : ℕ) → kind_of n ≡ Some Removes → n ≡ 2
number_removes n e = go (eqb n 1) (eqb n 2) refl (eqb n 3) e
  where
    go : (r s : Bool) → eqb n 2 ≡ s → (t : Bool) → cond r (Some Adds) (cond s (Some Removes) (cond t (Some Annuls) None)) ≡ Some Removes → n ≡ 2
    go true s f t e = absurd cc
    go false true f t e = eqb-true n 2 f
    go false false f true e = absurd cc
    go false false f false e = absurd cc

pub number_annuls : (n : ℕ) → kind_of n ≡ Some Annuls → n ≡ 3
number_annuls n e = go (eqb n 1) (eqb n 2) (eqb n 3) refl e
  where
    go : (r s t : Bool) → eqb n 3 ≡ t → cond r (Some Adds) (cond s (Some Removes) (cond t (Some Annuls) None)) ≡ Some Annuls → n ≡ 3
    go true s t f e = absurd cc
    go false true t f e = absurd cc
    go false false true f e = eqb-true n 3 f
    go false false false f e = absurd cc

pub number_none : (n : ℕ) → kind_of n ≡ None → (eqb n 1 ≡ false) × (eqb n 2 ≡ false) × (eqb n 3 ≡ false)
number_none n e = go (eqb n 1) (eqb n 2) (eqb n 3) e
  where
    go : (r s t : Bool) → cond r (Some Adds) (cond s (Some Removes) (cond t (Some Annuls) None)) ≡ None → (r ≡ false) × (s ≡ false) × (t ≡ false)
    go true s t e = absurd cc
    go false true t e = absurd cc
    go false false true e = absurd cc
    go false false false e = (refl, refl, refl)

pub behind_next : (k : Passed) (us : List Update) → (behind k us).next ≡ k.next + length us
unfolding behind
behind_next k us = refl

-- one more record passed, of each kind
module _ (k : Passed) (u : Update) where
  pub one_added :
      (a : ℕ) → kind_of u.kind ≡ Some Adds → cond (eqb (rank u.term u.from) k.added) (max k.arrived u.arrival) u.arrival ≡ a →
      record k { next = k.next + 1; added = rank u.term u.from; arrived = a } ≡ behind k (u ∷ [])
  unfolding behind rounds_of removals_of reach_of added_of arrived_of rounds_with removals_with reach_with added_with arrived_with
  one_added a e f = rw (← f, number_adds u.kind e)

  pub one_removed : kind_of u.kind ≡ Some Removes → record k { next = k.next + 1; removals = k.next + 1; reach = max k.reach (rank u.term u.to) } ≡ behind k (u ∷ [])
  unfolding behind rounds_of removals_of reach_of added_of arrived_of rounds_with removals_with reach_with added_with arrived_with
  one_removed e = rw (number_removes u.kind e, further (ltb k.reach (rank u.term u.to)) refl)
    where
      further : (t : Bool) → ltb k.reach (rank u.term u.to) ≡ t → cond t (rank u.term u.to) k.reach ≡ max k.reach (rank u.term u.to)
      further true e = omega (arith, ltb-true k.reach (rank u.term u.to) e)
      further false e = omega (arith, ltb-false k.reach (rank u.term u.to) e)

  pub one_annulled : kind_of u.kind ≡ Some Annuls → record k { next = k.next + 1; rounds = max k.rounds u.arrival } ≡ behind k (u ∷ [])
  unfolding behind rounds_of removals_of reach_of added_of arrived_of rounds_with removals_with reach_with added_with arrived_with
  one_annulled e = rw (number_annuls u.kind e)

  pub one_other : kind_of u.kind ≡ None → record k { next = k.next + 1 } ≡ behind k (u ∷ [])
  unfolding behind rounds_of removals_of reach_of added_of arrived_of rounds_with removals_with reach_with added_with arrived_with
  one_other e = let n = number_none u.kind e in rw (n.0, n.1, n.2)

-- a turn of passing: an update that starts at or below the pair is passed
pub passing_turn :
    (us : List Update) (u : Update) (k : Cursor) (x : ℕ) → drop k.passed.next us ≡ u ∷ drop (k.passed.next + 1) us → rank u.term u.from ≤ x →
    passing us k x ≡ passing us (record { passed = behind k.passed (u ∷ []); latest = latest_with x u k.latest; begun = k.begun }) x
unfolding passing passed_to behind starting_to rounds_of removals_of reach_of added_of arrived_of latest_of
passing_turn us u k x e l =
    let vs = starting_to x (drop (k.passed.next + 1) us) in
    let more : k.passed.next + suc (length vs) ≡ k.passed.next + 1 + length vs = omega arith in
    rw (e, le-ltb x (rank u.term u.from) l, more)

-- its end: the next update starts above the pair, or there is none
further_stop : (us vs : List Update) (u : Update) (n x : ℕ) → drop n us ≡ u ∷ vs → x < rank u.term u.from → further us n x ≡ []
unfolding starting_to
further_stop us vs u n x e l = rw (e, lt-ltb x (rank u.term u.from) l)

further_end : (us : List Update) (n x : ℕ) → drop n us ≡ [] → further us n x ≡ []
unfolding starting_to
further_end us n x e = rw e

pub passed_here : (us : List Update) (k : Passed) (x : ℕ) → further us k.next x ≡ [] → passed_to us k x ≡ k
unfolding passed_to behind rounds_of removals_of reach_of added_of arrived_of
passed_here us k x e = rw (e, add-zero k.next)

passing_here : (us : List Update) (k : Cursor) (x : ℕ) → further us k.passed.next x ≡ [] → passing us k x ≡ k
unfolding passing latest_of
passing_here us k x e = rw (passed_here us k.passed x e, e)

pub passing_stop :
    (us vs : List Update) (u : Update) (k : Cursor) (x : ℕ) → drop k.passed.next us ≡ u ∷ vs → x < rank u.term u.from → passing us k x ≡ k
passing_stop us vs u k x e l = passing_here us k x (further_stop us vs u k.passed.next x e l)

pub passing_end : (us : List Update) (k : Cursor) (x : ℕ) → drop k.passed.next us ≡ [] → passing us k x ≡ k
passing_end us k x e = passing_here us k x (further_end us k.passed.next x e)
