-- Of the records that start at or below a pair: which cover it, and which of those arrived later.
use Prim.Native.Nat.{ℕ, zero, suc, max, ◌≤◌, ◌<◌}
use native.Mathlib.Omega.{arith}
use mathlib.Core.Path.{◌≡◌, refl, sym, ◌∙◌}
use mathlib.Core.Bool.{Bool, true, false, cond, ◌&&◌, ◌||◌, or_assoc, or-false, and-false, and-true}
use mathlib.Core.List.{List, [], ◌∷◌}
use lib.ListN.{length}
use lib.Dec.{ltb, leb, eqb}
use borrow.Author.Tests.{ltb-true, ltb-false, le-leb, lt-leb, lt-ltb, ne_eqb, eqb-true, eqb-false, leb-true, leb-false}
use Rattle.pair.specs.Rank.{word_limit, rank, position}
use Rattle.pair.proofs.Tests.{or_left, or_right}
use Rattle.repeat.proofs.Twice.{exchange}
use Rattle.batch.specs.Batch.{Update, any_update, covers, removes, adds, latest, falls}
use Rattle.batch.specs.code.Rounds.{starts, round_reaches, begun, reached}
use Rattle.batch.specs.code.Search.{starting_to, reach_with, reach_of, rounds_with, rounds_of, reaches_to}
use Rattle.batch.proofs.Annulling.{starting_begun, begun_reach}
use Rattle.batch.proofs.Arriving.{latest_none}
use Rattle.batch.proofs.InOrder.{EachUpdate, Formed}

-- in a batch in order the updates above a pair do nothing to it
pub any_beyond : (f : Update → Bool) (x : ℕ) → ((u : Update) → x < rank u.term u.from → f u ≡ false) → (us : List Update) (k : ℕ) → x < k → falls k us ≡ false → any_update f us ≡ false
unfolding any_update falls
any_beyond f x h [] k l e = refl
any_beyond f x h (u ∷ us) k l e =
    let here = rank u.term u.from in
    let m : k ≤ here = ltb-false here k (or_left (ltb here k) (falls here us) e) in
    rw (h u (omega arith)) (any_beyond f x h us here (omega arith) (or_right (ltb here k) (falls here us) e))

covers_beyond : (r x : ℕ) (u : Update) → x < rank u.term u.from → covers r x u ≡ false
covers_beyond r x u l = rw (lt-leb (rank u.term u.from) x l, and-false (eqb u.kind r))

pub adds_beyond : (x : ℕ) (u : Update) → x < rank u.term u.from → adds x u ≡ false
unfolding adds
adds_beyond x u l = rw (ne_eqb x (rank u.term u.from) (omega arith), and-false (eqb u.kind 1))

-- a removal of a kind reaches to the pair exactly where one covers it
pub reaches : (r : ℕ) (us : List Update) (x k a : ℕ) → falls a us ≡ false → leb x (reach_of r k (starting_to x us)) ≡ (leb x k || any_update (covers r x) us)
unfolding starting_to reach_of falls any_update
reaches r [] x k a e = sym (or-false (leb x k))
reaches r (u ∷ us) x k a e = go (ltb x here) refl (reaches r us x (reach_with r u k) here o)
  where
    here : ℕ
    here = rank u.term u.from

    high : ℕ
    high = rank u.term u.to

    o : falls here us ≡ false
    o = or_right (ltb here a) (falls here us) e

    -- one record more
    reach : (s l : Bool) → ltb k high ≡ l → leb x (cond (s && l) high k) ≡ (leb x k || (s && leb x high))
    reach true true f = low (leb x k) refl
      where
        low : (s : Bool) → leb x k ≡ s → leb x high ≡ (s || leb x high)
        low true g = le-leb x high (omega (arith, leb-true x k g, ltb-true k high f))
        low false g = refl
    reach true false f = low (leb x k) refl
      where
        low : (s : Bool) → leb x k ≡ s → s ≡ (s || leb x high)
        low true g = refl
        low false g = sym (lt-leb x high (omega (arith, leb-false x k g, ltb-false k high f)))
    reach false l f = sym (or-false (leb x k))

    go : (t : Bool) → ltb x here ≡ t → leb x (reach_of r (reach_with r u k) (starting_to x us)) ≡ (leb x (reach_with r u k) || any_update (covers r x) us) →
        leb x (reach_of r k (cond t [] (u ∷ starting_to x us))) ≡ (leb x k || (covers r x u || any_update (covers r x) us))
    go true f ih =
        let l = ltb-true x here f in
        sym (rw (covers_beyond r x u l, any_beyond (covers r x) x (covers_beyond r x) us here l o) (or-false (leb x k)))
    go false f ih =
        ih ∙ (unfold reach_with in rw (le-leb here x (ltb-false x here f), reach (eqb u.kind r) (ltb k high) refl, and-true) (or_assoc (leb x k) _ _))

-- a pair is removed by a record of its term, or its position by one of every term
pub any_removes : (x : ℕ) (us : List Update) → any_update (removes x) us ≡ (any_update (covers 2 x) us || any_update (covers 3 (position x)) us)
unfolding any_update removes
any_removes x [] = refl
any_removes x (u ∷ us) = rw (any_removes x us) (exchange (covers 2 x u) (covers 3 (position x) u) (any_update (covers 2 x) us) (any_update (covers 3 (position x)) us))

-- where none starts at or below a number none covers it, and none starts at or below 0
none_covers : (r : ℕ) (us : List Update) (x : ℕ) → falls 0 us ≡ false → length (starting_to x us) ≡ 0 → any_update (covers r x) us ≡ false
unfolding starting_to falls any_update
none_covers r [] x o e = refl
none_covers r (u ∷ us) x o e = go (ltb x here) refl e
  where
    here : ℕ
    here = rank u.term u.from

    go : (s : Bool) → ltb x here ≡ s → length (cond s [] (u ∷ starting_to x us)) ≡ 0 → (covers r x u || any_update (covers r x) us) ≡ false
    go true f h =
        let l = ltb-true x here f in
        rw (covers_beyond r x u l) (any_beyond (covers r x) x (covers_beyond r x) us here l (or_right (ltb here 0) (falls here us) o))
    go false f h = absurd (omega arith)

none_low : (us : List Update) → EachUpdate Formed us → length (starting_to 0 us) ≡ 0
unfolding starting_to
none_low [] f = refl
none_low (u ∷ us) f = rw (lt-ltb 0 (rank u.term u.from) (omega (arith, f.0.from_low)))

-- a round begun at or below the position reaches to it exactly where one covers it
pub rounds_reached :
    (us : List Update) → EachUpdate Formed us → falls 0 us ≡ false → (j p : ℕ) → p < word_limit →
    reached (round_reaches us) (begun (starts us) (length (round_reaches us)) j p) p ≡ any_update (covers 3 p) us
unfolding reached
rounds_reached us f o j p l = go (begun (starts us) (length (round_reaches us)) j p) refl
  where
    so_many : length (starting_to p us) ≡ begun (starts us) (length (round_reaches us)) j p
    so_many = starting_begun us f o j p l

    above_zero : (i : ℕ) → length (starting_to p us) ≡ suc i → (q : ℕ) → p ≡ q → leb p 0 ≡ false
    above_zero i e zero z = absurd (let n : length (starting_to 0 us) ≡ suc i = rw z at e in omega (arith, none_low us f))
    above_zero i e (suc q) z = lt-leb p 0 (omega arith)

    go : (g : ℕ) → begun (starts us) (length (round_reaches us)) j p ≡ g → reached (round_reaches us) g p ≡ any_update (covers 3 p) us
    go zero e = sym (none_covers 3 us p o (so_many ∙ e))
    go (suc i) e = rw (begun_reach us f o j p l i e, reaches 3 us p 0 0 o, above_zero i (so_many ∙ e) p refl)

-- of records that start at or below a pair those that reach to it are those that cover it
pub reaching : (us : List Update) (x k : ℕ) → falls k us ≡ false → latest (reaches_to x) (starting_to x us) ≡ latest (covers 2 x) us
unfolding starting_to falls latest reaches_to
reaching [] x k e = refl
reaching (u ∷ us) x k e = go (ltb x here) refl (reaching us x here o)
  where
    here : ℕ
    here = rank u.term u.from

    o : falls here us ≡ false
    o = or_right (ltb here k) (falls here us) e

    go : (t : Bool) → ltb x here ≡ t → latest (reaches_to x) (starting_to x us) ≡ latest (covers 2 x) us →
        latest (reaches_to x) (cond t [] (u ∷ starting_to x us)) ≡ cond (covers 2 x u) (max u.arrival (latest (covers 2 x) us)) (latest (covers 2 x) us)
    go true f ih =
        let l = ltb-true x here f in
        sym (rw (covers_beyond 2 x u l) (latest_none (covers 2 x) us (any_beyond (covers 2 x) x (covers_beyond 2 x) us here l o)))
    go false f ih = rw (le-leb here x (ltb-false x here f), and-true (eqb u.kind 2), ih)

-- of the rounds begun at or below a position one reaches to it and arrived after a exactly where one covers it that did
pub rounds_later : (us : List Update) (k p a : ℕ) → EachUpdate Formed us → falls k us ≡ false → p < word_limit →
    any_update (λ u. leb p u.to && ltb a u.arrival) (starting_to p us) ≡ any_update (λ u. covers 3 p u && ltb a u.arrival) us
unfolding starting_to falls any_update
rounds_later [] k p a f e w = refl
rounds_later (u ∷ us) k p a f e w = go (ltb p here) refl (rounds_later us here p a f.1 o w)
  where
    here : ℕ
    here = rank u.term u.from

    o : falls here us ≡ false
    o = or_right (ltb here k) (falls here us) e

    later : Update → Bool
    later v = covers 3 p v && ltb a v.arrival

    beyond : (v : Update) → p < rank v.term v.from → later v ≡ false
    beyond v l = rw (covers_beyond 3 p v l)

    -- it starts with a position, so it is a round
    round : here ≤ p → covers 3 p u ≡ leb p u.to
    round l = is (eqb u.kind 3) refl
      where
        is : (t : Bool) → eqb u.kind 3 ≡ t → (t && leb here p && leb p (rank u.term u.to)) ≡ leb p u.to
        is true i =
            let z = f.0.term_none (eqb-true u.kind 3 i) in
            let q : rank u.term u.to ≡ u.to = omega arith in
            rw (le-leb here p l, q)
        is false i = absurd (omega (arith, f.0.term_low (eqb-false u.kind 3 i)))

    go : (t : Bool) → ltb p here ≡ t → any_update (λ v. leb p v.to && ltb a v.arrival) (starting_to p us) ≡ any_update later us →
        any_update (λ v. leb p v.to && ltb a v.arrival) (cond t [] (u ∷ starting_to p us)) ≡ (later u || any_update later us)
    go true g ih = let l = ltb-true p here g in sym (rw (beyond u l) (any_beyond later p beyond us here l o))
    go false g ih = rw (round (ltb-false p here g), ih)

-- no round that covers the position arrived after the latest of those passed
pub rounds_passed : (us : List Update) (x p k j : ℕ) → p ≤ x → falls j us ≡ false → (k ≤ rounds_of k (starting_to x us)) × (latest (covers 3 p) us ≤ rounds_of k (starting_to x us))
unfolding starting_to falls latest rounds_of rounds_with
rounds_passed [] x p k j h e = (omega arith, omega arith)
rounds_passed (u ∷ us) x p k j h e = go (ltb x here) refl (λ m. rounds_passed us x p m here h o)
  where
    here : ℕ
    here = rank u.term u.from

    o : falls here us ≡ false
    o = or_right (ltb here j) (falls here us) e

    Bound : ℕ → ℕ → Type 0
    Bound n m = (n ≤ rounds_of m (starting_to x us)) × (latest (covers 3 p) us ≤ rounds_of m (starting_to x us))

    covered : (c : Bool) (m : ℕ) → u.arrival ≤ m → latest (covers 3 p) us ≤ m → cond c (max u.arrival (latest (covers 3 p) us)) (latest (covers 3 p) us) ≤ m
    covered true m a b = omega arith
    covered false m a b = b

    Whole : Bool → ℕ → Type 0
    Whole s m =
        (k ≤ m) × (cond (s && leb here p && leb p (rank u.term u.to)) (max u.arrival (latest (covers 3 p) us)) (latest (covers 3 p) us) ≤ m)

    on : (s : Bool) → ((m : ℕ) → Bound m m) → Whole s (rounds_of (cond s (max k u.arrival) k) (starting_to x us))
    on true ih =
        let b = ih (max k u.arrival) in
        (omega (arith, b.0), covered (leb here p && leb p (rank u.term u.to)) _ (omega (arith, b.0)) b.1)
    on false ih = ih k

    go : (t : Bool) → ltb x here ≡ t → ((m : ℕ) → Bound m m) → Whole (eqb u.kind 3) (rounds_of k (cond t [] (u ∷ starting_to x us)))
    go true f ih =
        let l = ltb-true x here f in
        let none : latest (covers 3 p) us ≡ 0 = latest_none (covers 3 p) us (any_beyond (covers 3 p) p (covers_beyond 3 p) us here (omega arith) o) in
        (omega arith, rw (lt-leb here p (omega arith), and-false (eqb u.kind 3), none) (omega arith))
    go false f ih = on (eqb u.kind 3) ih
