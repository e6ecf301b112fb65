-- The merge of a set with the additions of a batch, one pair after the other.
use Prim.Native.Nat.{ℕ, zero, suc, ◌≤◌, ◌<◌}
use mathlib.Core.Path.{◌≡◌, refl, sym, ◌∙◌}
use mathlib.Core.Bool.{Bool, true, false, cond, ◌&&◌, ◌||◌, not, or-true}
use mathlib.Core.List.{List, [], ◌∷◌}
use mathlib.Core.Logic.{◌⊎◌, inl, inr}
use lib.ListN.{get_or}
use lib.Dec.{ltb, eqb}
use native.Mathlib.Omega.{arith}
use borrow.Author.Tests.{ltb-true, ltb-false, lt-ltb, le-ltb, eq-eqb, ne_eqb}
use Rattle.pair.specs.Rank.{rank}
use Rattle.pair.specs.Rising.{Each, keep, above, insert}
use Rattle.pair.proofs.Tests.{and_right, or_left, or_right, compared}
use Rattle.pair.proofs.Rising.{rises}
use Rattle.pair.proofs.Keep.{keep_cons}
use Rattle.pair.proofs.Parts.{above_keep, each_above, rises_next}
use Rattle.batch.specs.Batch.{Update, any_update, adds, withdrawn, with_added, applied, falls}
use Rattle.batch.specs.code.Search.{lesser, adds_above, least_added}
use Rattle.batch.proofs.Meaning.{rises_with_added}

-- the first element above k, 0 for none
unfoldable pub first_above : ℕ → List ℕ → ℕ
first_above k xs = get_or (above k xs) 0 0

-- the lesser of a number and none is the number
pub lesser_none : (a : ℕ) → lesser a 0 ≡ a
unfolding lesser
lesser_none zero = refl
lesser_none (suc a) = refl

-- of two numbers it is the lesser
pub lesser_left : (a b : ℕ) → 0 < a → a ≤ b → lesser a b ≡ a
unfolding lesser
lesser_left zero b p h = absurd (omega arith)
lesser_left (suc a) zero p h = refl
lesser_left (suc a) (suc b) p h = omega arith

pub lesser_right : (a b : ℕ) → 0 < b → b ≤ a → lesser a b ≡ b
unfolding lesser
lesser_right zero b p h = refl
lesser_right (suc a) zero p h = absurd (omega arith)
lesser_right (suc a) (suc b) p h = omega arith

-- of three it is the least, however they are taken
pub lesser_assoc : (a b c : ℕ) → lesser (lesser a b) c ≡ lesser a (lesser b c)
unfolding lesser
lesser_assoc zero b c = refl
lesser_assoc (suc a) zero c = refl
lesser_assoc (suc a) (suc b) zero = refl
lesser_assoc (suc a) (suc b) (suc c) = omega arith

-- the first element is the first above k, or is passed over
pub first_above_cons : (k x : ℕ) (xs : List ℕ) → first_above k (x ∷ xs) ≡ cond (ltb k x) x (first_above k xs)
unfolding first_above above keep
first_above_cons k x xs = go (ltb k x)
  where
    go : (t : Bool) → get_or (cond t (x ∷ above k xs) (above k xs)) 0 0 ≡ cond t x (get_or (above k xs) 0 0)
    go true = refl
    go false = refl

-- the first above k where a number is put in
pub first_above_insert : (xs : List ℕ) (k n : ℕ) → first_above k (insert n xs) ≡ cond (ltb k n) (lesser n (first_above k xs)) (first_above k xs)
unfolding insert
first_above_insert [] k n = first_above_cons k n [] ∙ rw (none k, lesser_none n)
  where
    none : (j : ℕ) → first_above j [] ≡ 0
    none j = unfold first_above above keep in refl
first_above_insert (x ∷ xs) k n = go (compared n x) (first_above_insert xs k n)
  where
    Goal : Type 0
    Goal =
        first_above k (cond (ltb n x) (n ∷ x ∷ xs) (cond (eqb n x) (x ∷ xs) (x ∷ insert n xs)))
        ≡ cond (ltb k n) (lesser n (first_above k (x ∷ xs))) (first_above k (x ∷ xs))

    front : n < x → (t : Bool) → ltb k n ≡ t → cond t n (first_above k (x ∷ xs)) ≡ cond t (lesser n (first_above k (x ∷ xs))) (first_above k (x ∷ xs))
    front l true e =
        let i : k < n = ltb-true k n e in
        rw (first_above_cons k x xs, lt-ltb k x (omega arith)) (sym (lesser_left n x (omega arith) (omega arith)))
    front l false e = refl

    same : n ≡ x → (t : Bool) → ltb k n ≡ t → first_above k (x ∷ xs) ≡ cond t (lesser n (first_above k (x ∷ xs))) (first_above k (x ∷ xs))
    same l true e =
        let i : k < n = ltb-true k n e in
        rw (first_above_cons k x xs, lt-ltb k x (omega arith)) (sym (lesser_right n x (omega arith) (omega arith)))
    same l false e = refl

    later : x < n → (t : Bool) → ltb k x ≡ t → first_above k (insert n xs) ≡ cond (ltb k n) (lesser n (first_above k xs)) (first_above k xs)
        → cond t x (first_above k (insert n xs)) ≡ cond (ltb k n) (lesser n (cond t x (first_above k xs))) (cond t x (first_above k xs))
    later l true e ih =
        let i : k < x = ltb-true k x e in
        rw (lt-ltb k n (omega arith)) (sym (lesser_right n x (omega arith) (omega arith)))
    later l false e ih = ih

    go : (n < x) ⊎ ((n ≡ x) ⊎ (x < n)) → first_above k (insert n xs) ≡ cond (ltb k n) (lesser n (first_above k xs)) (first_above k xs) → Goal
    go (inl l) ih = rw (lt-ltb n x l, first_above_cons k n (x ∷ xs)) (front l (ltb k n) refl)
    go (inr (inl l)) ih = rw (le-ltb n x (omega arith), eq-eqb n x l) (same l (ltb k n) refl)
    go (inr (inr l)) ih =
        rw (le-ltb n x (omega arith), ne_eqb n x (omega arith), first_above_cons k x (insert n xs), first_above_cons k x xs)
        (later l (ltb k x) refl ih)

-- the first above k of the set with the added pairs: the least addition or the first of the set, whichever is lesser
pub first_above_with_added : (k : ℕ) (us : List Update) (s : List ℕ) → first_above k (with_added us s) ≡ lesser (least_added k us) (first_above k s)
unfolding with_added least_added adds_above
first_above_with_added k [] s = unfold lesser in refl
first_above_with_added k (u ∷ us) s = go (eqb u.kind 1) (first_above_with_added k us s)
  where
    here : ℕ
    here = rank u.term u.from

    put : (t : Bool) → cond t (lesser here (lesser (least_added k us) (first_above k s))) (lesser (least_added k us) (first_above k s))
        ≡ lesser (cond t (lesser here (least_added k us)) (least_added k us)) (first_above k s)
    put true = sym (lesser_assoc here (least_added k us) (first_above k s))
    put false = refl

    go : (t : Bool) → first_above k (with_added us s) ≡ lesser (least_added k us) (first_above k s)
        → first_above k (cond t (insert here (with_added us s)) (with_added us s))
        ≡ lesser (cond (t && ltb k here) (lesser here (least_added k us)) (least_added k us)) (first_above k s)
    go true ih = first_above_insert (with_added us s) k here ∙ rw ih (put (ltb k here))
    go false ih = ih

-- where there is one, the least addition above k is added and above k
pub least_added_adds : (us : List Update) (k : ℕ) → (least_added k us ≡ 0) ⊎ ((k < least_added k us) × (any_update (adds (least_added k us)) us ≡ true))
unfolding least_added adds_above any_update adds
least_added_adds [] k = inl refl
least_added_adds (u ∷ us) k = go (eqb u.kind 1) refl (ltb k here) refl (least_added_adds us k)
  where
    here : ℕ
    here = rank u.term u.from

    least : ℕ
    least = least_added k us

    Is : ℕ → Bool → Type 0
    Is x s = (x ≡ 0) ⊎ ((k < x) × (((s && eqb x here) || any_update (adds x) us) ≡ true))

    -- the record's own pair, or the least of the others
    own : (s : Bool) → s ≡ true → k < here → Is here s
    own s f l = inr (l, rw (f, eq-eqb here here refl))

    other : (s : Bool) → (k < least) × (any_update (adds least) us ≡ true) → Is least s
    other s (l, e) = inr (l, rw e (or-true (s && eqb least here)))

    both : (s : Bool) → s ≡ true → k < here → (k < least) × (any_update (adds least) us ≡ true) → (n : ℕ) → lesser here least ≡ n → (n ≡ here) ⊎ (n ≡ least) → Is n s
    both s f l h n e (inl z) = rw z (own s f l)
    both s f l h n e (inr z) = rw z (other s h)

    go : (s : Bool) → eqb u.kind 1 ≡ s → (t : Bool) → ltb k here ≡ t → (least ≡ 0) ⊎ ((k < least) × (any_update (adds least) us ≡ true)) →
        Is (cond (s && t) (lesser here least) least) s
    go true f true g (inl z) = rw (z, lesser_none here) (own true refl (ltb-true k here g))
    go true f true g (inr h) = both true refl (ltb-true k here g) h (lesser here least) refl (either (compared here least))
      where
        either : (here < least) ⊎ ((here ≡ least) ⊎ (least < here)) → (lesser here least ≡ here) ⊎ (lesser here least ≡ least)
        either (inl l) = inl (lesser_left here least (omega (arith, ltb-true k here g)) (omega arith))
        either (inr (inl l)) = inl (lesser_left here least (omega (arith, ltb-true k here g)) (omega arith))
        either (inr (inr l)) = inr (lesser_right here least (omega (arith, h.0)) (omega arith))
    go true f false g (inl z) = inl z
    go true f false g (inr h) = other true h
    go false f t g (inl z) = inl z
    go false f t g (inr h) = other false h

-- the updates of a batch in order stand rising, so its first addition above k is the least
pub least_added_low : (us : List Update) (x k : ℕ) → falls x us ≡ false → (least_added k us ≡ 0) ⊎ (x ≤ least_added k us)
unfolding least_added adds_above falls
least_added_low [] x k h = inl refl
least_added_low (u ∷ us) x k h =
    go (eqb u.kind 1 && ltb k here) refl
    (least_added_low us here k (or_right (ltb here x) (falls here us) h))
  where
    here : ℕ
    here = rank u.term u.from

    low : x ≤ here
    low = ltb-false here x (or_left (ltb here x) (falls here us) h)

    go : (t : Bool) → (eqb u.kind 1 && ltb k here) ≡ t → (least_added k us ≡ 0) ⊎ (here ≤ least_added k us)
        → (cond t (lesser here (least_added k us)) (least_added k us) ≡ 0) ⊎ (x ≤ cond t (lesser here (least_added k us)) (least_added k us))
    go true e (inl z) = inr (rw (z, lesser_none here) low)
    go true e (inr l) =
        let i : k < here = ltb-true k here (and_right (eqb u.kind 1) (ltb k here) e) in
        inr (rw (lesser_left here (least_added k us) (omega arith) l) low)
    go false e (inl z) = inl z
    go false e (inr l) = inr (omega (arith, low))

-- so the search for the least ends at the first addition above k
pub least_added_first : (u : Update) (us : List Update) (k : ℕ) → falls (rank u.term u.from) us ≡ false
    → least_added k (u ∷ us) ≡ cond (eqb u.kind 1 && ltb k (rank u.term u.from)) (rank u.term u.from) (least_added k us)
unfolding least_added adds_above
least_added_first u us k h = go (eqb u.kind 1 && ltb k here) refl (least_added_low us here k h)
  where
    here : ℕ
    here = rank u.term u.from

    go : (t : Bool) → (eqb u.kind 1 && ltb k here) ≡ t → (least_added k us ≡ 0) ⊎ (here ≤ least_added k us)
        → cond t (lesser here (least_added k us)) (least_added k us) ≡ cond t here (least_added k us)
    go true e (inl z) = rw (z, lesser_none here)
    go true e (inr l) =
        let i : k < here = ltb-true k here (and_right (eqb u.kind 1) (ltb k here) e) in
        lesser_left here (least_added k us) (omega arith) l
    go false e q = refl

-- one turn of the merge: with x the first above k of the set with the added pairs, the pairs above k of the set afterwards are x, unless
-- it is withdrawn, and those above x
pub applied_turn : (k x : ℕ) (us : List Update) (s : List ℕ) → rises s ≡ true → first_above k (with_added us s) ≡ x → 0 < x
    → above k (applied us s) ≡ cond (not (withdrawn us x)) (x ∷ above x (applied us s)) (above x (applied us s))
unfolding applied first_above
applied_turn k x us s r e p = go (above k (with_added us s)) refl e
  where
    left : ℕ → Bool
    left y = not (withdrawn us y)

    go : (ys : List ℕ) → above k (with_added us s) ≡ ys → get_or ys 0 0 ≡ x
        → above k (keep left (with_added us s)) ≡ cond (left x) (x ∷ above x (keep left (with_added us s))) (above x (keep left (with_added us s)))
    go [] q f = absurd (omega arith)
    go (y ∷ ys) q f =
        above_keep k left (with_added us s)
        ∙ rw (above_keep x left (with_added us s), q, f) (rw (rises_next (with_added us s) k x ys (rises_with_added us s r) (rw f at q)) (keep_cons left x ys))

-- its end: with no pair above k in the set with the added pairs, there is none afterwards
pub applied_end : (k : ℕ) (us : List Update) (s : List ℕ) → first_above k (with_added us s) ≡ 0 → above k (applied us s) ≡ []
unfolding applied first_above
applied_end k us s e = above_keep k (λ y. not (withdrawn us y)) (with_added us s) ∙ go (above k (with_added us s)) (each_above k (with_added us s)) e
  where
    go : (ys : List ℕ) → Each (λ y. k < y) ys → get_or ys 0 0 ≡ 0 → keep (λ y. not (withdrawn us y)) ys ≡ []
    go [] a f = unfold keep in refl
    go (y ∷ ys) a f = absurd (omega arith)
