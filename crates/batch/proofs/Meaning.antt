-- What a batch makes of a set: the set with everything added, less everything withdrawn.
use Prim.Native.Nat.{ℕ, suc, ◌+◌, ◌≤◌, ◌<◌}
use native.Mathlib.Omega.{arith}
use mathlib.Core.Path.{◌≡◌, refl, sym, ◌∙◌}
use mathlib.Core.Bool.{Bool, true, false, cond, ◌&&◌, ◌||◌, not, or_assoc}
use mathlib.Core.List.{List, [], ◌∷◌}
use mathlib.Core.Logic.{inl, inr}
use lib.ListN.{length}
use lib.Dec.{ltb, eqb}
use borrow.Author.Tests.{eq-eqb}
use Rattle.pair.specs.Rank.{rank}
use Rattle.pair.specs.Rising.{Each, rising_from, insert}
use Rattle.pair.proofs.Tests.{and_both, or_left, or_right, or_intro}
use Rattle.pair.proofs.Rising.{rises, rises_from, rises_keep, rises_insert, rises_rising}
use Rattle.pair.proofs.Sets.{has, has_keep, has_insert, rises_ext, rising_Each}
use Rattle.pair.proofs.Keep.{keep_all}
use Rattle.pair.proofs.Each.{each_all, each_keep, each_insert}
use Rattle.batch.specs.Batch.{Update, any_update, adds, removes, latest, withdrawn, with_added, applied}

-- the batch adds the pair
unfoldable pub added : List Update → ℕ → Bool
added us x = any_update (adds x) us

-- the batch removes the pair
unfoldable pub removed : List Update → ℕ → Bool
removed us x = any_update (removes x) us

-- the members of the set with the added pairs
pub has_with_added : (x : ℕ) (us : List Update) (s : List ℕ) → has x (with_added us s) ≡ (added us x || has x s)
unfolding with_added added any_update adds
has_with_added x [] s = refl
has_with_added x (u ∷ us) s = go (eqb u.kind 1) (has_with_added x us s)
  where
    here : ℕ
    here = rank u.term u.from

    go : (t : Bool) → has x (with_added us s) ≡ (added us x || has x s)
        → has x (cond t (insert here (with_added us s)) (with_added us s)) ≡ (((t && eqb x here) || added us x) || has x s)
    go true ih = has_insert x here (with_added us s) ∙ rw ih (sym (or_assoc (eqb x here) (added us x) (has x s)))
    go false ih = ih

-- in the set afterwards are the added ones and the old ones that are not withdrawn
pub has_applied : (x : ℕ) (us : List Update) (s : List ℕ) → has x (applied us s) ≡ (not (withdrawn us x) && (added us x || has x s))
unfolding applied
has_applied x us s = has_keep x (λ y. not (withdrawn us y)) (with_added us s) ∙ rw (has_with_added x us s)

-- a batch leaves a rising list rising
pub rises_with_added : (us : List Update) (s : List ℕ) → rises s ≡ true → rises (with_added us s) ≡ true
unfolding with_added
rises_with_added [] s r = r
rises_with_added (u ∷ us) s r = go (eqb u.kind 1) (rises_with_added us s r)
  where
    go : (t : Bool) → rises (with_added us s) ≡ true
        → rises (cond t (insert (rank u.term u.from) (with_added us s)) (with_added us s)) ≡ true
    go true ih = rises_insert (rank u.term u.from) (with_added us s) ih
    go false ih = ih

-- the same with the removals
pub rises_applied : (us : List Update) (s : List ℕ) → rises s ≡ true → rises (applied us s) ≡ true
unfolding applied
rises_applied us s r = rises_keep (λ x. not (withdrawn us x)) (with_added us s) (rises_with_added us s r)

-- applied twice is applied once
pub applied_twice : (us : List Update) (s : List ℕ) → rises s ≡ true → applied us (applied us s) ≡ applied us s
applied_twice us s r =
    rises_ext (applied us (applied us s)) (applied us s) (rises_applied us (applied us s) (rises_applied us s r))
    (rises_applied us s r) members
  where
    table : (w a h : Bool) → (not w && (a || (not w && (a || h)))) ≡ (not w && (a || h))
    table true a h = refl
    table false true h = refl
    table false false h = refl

    members : (x : ℕ) → has x (applied us (applied us s)) ≡ has x (applied us s)
    members x = has_applied x us (applied us s) ∙ rw (has_applied x us s) (table (withdrawn us x) (added us x) (has x s))

-- what holds of every added pair and of the set holds of the set afterwards
pub each_with_added : (P : ℕ → Type 0) (us : List Update) (s : List ℕ) → ((x : ℕ) → added us x ≡ true → P x) → Each P s → Each P (with_added us s)
unfolding with_added added any_update adds
each_with_added P [] s f a = a
each_with_added P (u ∷ us) s f a =
    go (eqb u.kind 1) refl (each_with_added P us s (λ x h. f x (or_intro (adds x u) (added us x) (inr h))) a)
  where
    here : ℕ
    here = rank u.term u.from

    go : (t : Bool) → eqb u.kind 1 ≡ t → Each P (with_added us s) → Each P (cond t (insert here (with_added us s)) (with_added us s))
    go true e ih =
        each_insert P here (with_added us s)
        (f here (or_intro (adds here u) (added us here) (inl (and_both (eqb u.kind 1) (eqb here here) e (eq-eqb here here refl))))) ih
    go false e ih = ih

-- the same with the removals
pub each_applied : (P : ℕ → Type 0) (us : List Update) (s : List ℕ) → ((x : ℕ) → added us x ≡ true → P x) → Each P s → Each P (applied us s)
unfolding applied
each_applied P us s f a = each_keep P (λ x. not (withdrawn us x)) (with_added us s) (each_with_added P us s f a)

-- where every added pair is above k, a list that rises from k still does
pub rising_applied : (us : List Update) (s : List ℕ) (k : ℕ) → ((x : ℕ) → added us x ≡ true → k < x) → rising_from k s ≡ true → rising_from k (applied us s) ≡ true
rising_applied us s k f r =
    rises_rising (applied us s) k (rises_applied us s (rises_from s k r)) (each_applied (λ x. k < x) us s f (rising_Each s k r))

-- no update at all changes nothing
pub applied_none : (s : List ℕ) → applied [] s ≡ s
unfolding applied with_added withdrawn latest
applied_none s = keep_all (λ x. not (withdrawn [] x)) s (each_all (λ x. not (withdrawn [] x) ≡ true) (λ x. refl) s)

-- a batch of removals only keeps what it does not remove
pub with_added_removals : (us : List Update) (s : List ℕ) → any_update (λ u. eqb u.kind 1) us ≡ false → with_added us s ≡ s
unfolding with_added any_update
with_added_removals [] s h = refl
with_added_removals (u ∷ us) s h =
    rw (or_left (eqb u.kind 1) (any_update (λ v. eqb v.kind 1) us) h)
    (with_added_removals us s (or_right (eqb u.kind 1) (any_update (λ v. eqb v.kind 1) us) h))

-- it adds no pair
pub added_removals : (us : List Update) (x : ℕ) → any_update (λ u. eqb u.kind 1) us ≡ false → added us x ≡ false
unfolding added any_update adds
added_removals [] x h = refl
added_removals (u ∷ us) x h =
    rw (or_left (eqb u.kind 1) (any_update (λ v. eqb v.kind 1) us) h)
    (added_removals us x (or_right (eqb u.kind 1) (any_update (λ v. eqb v.kind 1) us) h))

insert_few : (n : ℕ) (xs : List ℕ) → length (insert n xs) ≤ suc (length xs)
unfolding insert
insert_few n [] = omega arith
insert_few n (x ∷ xs) = go (insert_few n xs) (ltb n x) (eqb n x)
  where
    go : length (insert n xs) ≤ suc (length xs) → (s t : Bool) → length (cond s (n ∷ x ∷ xs) (cond t (x ∷ xs) (x ∷ insert n xs))) ≤ suc (suc (length xs))
    go h true t = omega arith
    go h false true = omega arith
    go h false false = omega (arith, h)

-- at most one pair is added by each record
pub added_few : (us : List Update) (s : List ℕ) → length (with_added us s) ≤ length us + length s
unfolding with_added
added_few [] s = omega arith
added_few (u ∷ us) s = go (added_few us s) (eqb u.kind 1)
  where
    go :
        length (with_added us s) ≤ length us + length s → (t : Bool) →
        length (cond t (insert (rank u.term u.from) (with_added us s)) (with_added us s)) ≤ suc (length us) + length s
    go h true = omega (arith, h, insert_few (rank u.term u.from) (with_added us s))
    go h false = omega (arith, h)
