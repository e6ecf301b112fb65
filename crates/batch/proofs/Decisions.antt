-- Questions with rising ranks: at the cursor that they leave, what is decided of a pair is what the whole batch does to it.
use Prim.Native.Nat.{ℕ, suc, min, max, ◌+◌, ◌/◌, ◌≤◌, ◌<◌}
use native.Mathlib.Omega.{arith}
use mathlib.Core.Path.{◌≡◌, refl, sym, ap, ◌∙◌}
use mathlib.Core.Bool.{Bool, true, false, cond, ◌&&◌, ◌||◌, or-false, and-true}
use mathlib.Core.List.{List, [], ◌∷◌, ◌++◌}
use lib.ListN.{length, take, drop, length-append}
use lib.Dec.{ltb, leb, eqb}
use borrow.Author.Tests.{ltb-true, ltb-false, le-ltb, lt-leb, eq-eqb, ne_eqb, eqb-true, eqb-false}
use Rattle.pair.specs.Rank.{rank, position}
use Rattle.pair.proofs.Tests.{or_left, or_right}
use Rattle.batch.specs.declared.Cursor.{Cursor}
use Rattle.batch.specs.declared.Latest.{Latest}
use Rattle.batch.specs.declared.Passed.{Passed}
use Rattle.batch.specs.declared.Removal.{Removal}
use Rattle.batch.specs.Batch.{Update, updates, any_update, covers, removes, adds, latest, withdrawn, falls, batch_number}
use Rattle.batch.specs.code.Rounds.{starts, round_reaches, begun, reached, annuls_later}
use Rattle.batch.specs.code.Search.{starting_to, reach_with, reach_of, rounds_with, rounds_of, removals_with, removals_of, added_with, added_of, arrived_with, arrived_of, behind, passed_to, decided, start, asked, reaches_to, latest_of, none, passing, renewed, removal, annulled, Serves, Follows}
use Rattle.batch.proofs.Annulling.{rounds_few, starting_begun}
use Rattle.batch.proofs.Any.{any_less}
use Rattle.batch.proofs.Arriving.{latest_none, latest_append, latest_after, latest_either, ltb_max}
use Rattle.batch.proofs.InOrder.{EachUpdate, Formed, in_order, formed_updates, withdrawn_removed}
use Rattle.batch.proofs.Meaning.{added, removed}
use Rattle.batch.proofs.Records.{length_updates}
use Rattle.batch.proofs.Search.{falls_lower}
use Rattle.batch.proofs.Covering.{any_beyond, adds_beyond, reaches, any_removes, rounds_reached, reaching, rounds_later, rounds_passed}
use Rattle.batch.proofs.Serving.{serves_same, serves_further, latest_found, take_starting, take_further, first_removals}

-- further updates behind a cursor
reach_append : (r : ℕ) (us vs : List Update) (k : ℕ) → reach_of r k (us ++ vs) ≡ reach_of r (reach_of r k us) vs
unfolding reach_of
reach_append r [] vs k = refl
reach_append r (u ∷ us) vs k = reach_append r us vs (reach_with r u k)

added_append : (us vs : List Update) (k : ℕ) → added_of k (us ++ vs) ≡ added_of (added_of k us) vs
unfolding added_of
added_append [] vs k = refl
added_append (u ∷ us) vs k = added_append us vs (added_with u k)

arrived_append : (us vs : List Update) (k n : ℕ) → arrived_of k n (us ++ vs) ≡ arrived_of (added_of k us) (arrived_of k n us) vs
unfolding added_of arrived_of
arrived_append [] vs k n = refl
arrived_append (u ∷ us) vs k n = arrived_append us vs (added_with u k) (arrived_with u k n)

rounds_append : (us vs : List Update) (k : ℕ) → rounds_of k (us ++ vs) ≡ rounds_of (rounds_of k us) vs
unfolding rounds_of
rounds_append [] vs k = refl
rounds_append (u ∷ us) vs k = rounds_append us vs (rounds_with u k)

removals_append : (us vs : List Update) (n k : ℕ) → removals_of n k (us ++ vs) ≡ removals_of (n + length us) (removals_of n k us) vs
unfolding removals_of
removals_append [] vs n k = let e : n + 0 ≡ n = omega arith in rw e
removals_append (u ∷ us) vs n k = let e : n + suc (length us) ≡ n + 1 + length us = omega arith in rw e (removals_append us vs (n + 1) (removals_with u (n + 1) k))

starting_further : (us : List Update) (k x : ℕ) → k ≤ x → starting_to x us ≡ starting_to k us ++ starting_to x (drop (length (starting_to k us)) us)
unfolding starting_to
starting_further [] k x h = refl
starting_further (u ∷ us) k x h = go (ltb k here) refl (starting_further us k x h)
  where
    here : ℕ
    here = rank u.term u.from

    go : (t : Bool) → ltb k here ≡ t → starting_to x us ≡ starting_to k us ++ starting_to x (drop (length (starting_to k us)) us) →
        cond (ltb x here) [] (u ∷ starting_to x us) ≡ cond t [] (u ∷ starting_to k us) ++ starting_to x (drop (length (cond t [] (u ∷ starting_to k us))) (u ∷ us))
    go true e ih = refl
    go false e ih =
        let l : ltb x here ≡ false = le-ltb x here (omega (arith, ltb-false k here e)) in
        rw (l, ← ih)

behind_append : (k : Passed) (us vs : List Update) → behind (behind k us) vs ≡ behind k (us ++ vs)
unfolding behind
behind_append k us vs =
    let e : k.next + length us + length vs ≡ k.next + length (us ++ vs) = omega (arith, length-append us vs) in
    rw (rounds_append us vs k.rounds, removals_append us vs k.next k.removals, reach_append 2 us vs k.reach, added_append us vs k.added, arrived_append us vs k.added k.arrived, e)

-- a question with a rank that is not below the last one
passed_asked : (b : List ℕ) (k x : ℕ) → k ≤ x → passed_to (updates b) (asked b k) x ≡ asked b x
unfolding passed_to asked
passed_asked b k x h =
    let us = updates b in
    let e : (asked b k).next ≡ length (starting_to k us) = unfold asked passed_to behind in omega arith in
    ap (λ (n : ℕ). behind (asked b k) (starting_to x (drop n us))) e
    ∙ (behind_append _ (starting_to k us) (starting_to x (drop (length (starting_to k us)) us)) ∙ ap (behind _) (sym (starting_further us k x h)))

-- the last addition is the pair exactly where one adds it
adds_last : (us : List Update) (x k : ℕ) → falls k us ≡ false → eqb x (added_of k (starting_to x us)) ≡ (eqb x k || any_update (adds x) us)
unfolding starting_to added_of falls any_update
adds_last [] x k e = sym (or-false (eqb x k))
adds_last (u ∷ us) x k e = go (ltb x here) refl (eqb u.kind 1) refl (adds_last us x here o) (adds_last us x k (falls_lower us here k low o))
  where
    here : ℕ
    here = rank u.term u.from

    low : k ≤ here
    low = ltb-false here k (or_left (ltb here k) (falls here us) e)

    o : falls here us ≡ false
    o = or_right (ltb here k) (falls here us) e

    Rest : ℕ → Type 0
    Rest j = eqb x (added_of j (starting_to x us)) ≡ (eqb x j || any_update (adds x) us)

    -- an addition at or below the pair takes the place of one before it
    later : here ≤ x → (s : Bool) → eqb x k ≡ s → (eqb x here || any_update (adds x) us) ≡ (s || (eqb x here || any_update (adds x) us))
    later l true g = rw (eq-eqb x here (omega (arith, eqb-true x k g, low)))
    later l false g = refl

    put : (s : Bool) → eqb u.kind 1 ≡ s → eqb x (added_of (added_with u k) (starting_to x us)) ≡ eqb x (added_of (cond s here k) (starting_to x us))
    put s g = unfold added_with in rw g

    go : (t : Bool) → ltb x here ≡ t → (s : Bool) → eqb u.kind 1 ≡ s → Rest here → Rest k →
        eqb x (added_of k (cond t [] (u ∷ starting_to x us))) ≡ (eqb x k || (adds x u || any_update (adds x) us))
    go true f s g ih jh =
        let l = ltb-true x here f in
        sym (rw (adds_beyond x u l, any_beyond (adds x) x (adds_beyond x) us here l o) (or-false (eqb x k)))
    go false f true g ih jh = put true g ∙ (ih ∙ (unfold adds in rw g (later (ltb-false x here f) (eqb x k) refl)))
    go false f false g ih jh = put false g ∙ (jh ∙ (unfold adds in rw g))

-- and the greatest arrival number in hand is that of those that add it
mine : ℕ → ℕ → ℕ → ℕ
mine x k n = cond (eqb x k) n 0

adds_arrived :
    (us : List Update) (x k n : ℕ) → falls k us ≡ false →
    mine x (added_of k (starting_to x us)) (arrived_of k n (starting_to x us)) ≡ max (mine x k n) (latest (adds x) us)
unfolding starting_to added_of arrived_of falls latest mine
adds_arrived [] x k n e = omega arith
adds_arrived (u ∷ us) x k n e =
    go (ltb x here) refl (eqb u.kind 1) refl (λ m. adds_arrived us x here m o) (adds_arrived us x k n (falls_lower us here k low o))
  where
    here : ℕ
    here = rank u.term u.from

    low : k ≤ here
    low = ltb-false here k (or_left (ltb here k) (falls here us) e)

    o : falls here us ≡ false
    o = or_right (ltb here k) (falls here us) e

    Rest : ℕ → ℕ → Type 0
    Rest j m = mine x (added_of j (starting_to x us)) (arrived_of j m (starting_to x us)) ≡ max (mine x j m) (latest (adds x) us)

    put : (s : Bool) → eqb u.kind 1 ≡ s →
        mine x (added_of (added_with u k) (starting_to x us)) (arrived_of (added_with u k) (arrived_with u k n) (starting_to x us))
        ≡ mine x (added_of (cond s here k) (starting_to x us))
        (arrived_of (cond s here k) (cond s (cond (eqb here k) (max n u.arrival) u.arrival) n) (starting_to x us))
    put s g = unfold added_with arrived_with in rw g

    -- an addition at or below the pair takes the place of one before it
    later : here ≤ x → (p : Bool) → eqb x here ≡ p → (q : Bool) → eqb x k ≡ q → (r : Bool) → eqb here k ≡ r →
        max (cond p (cond r (max n u.arrival) u.arrival) 0) (latest (adds x) us) ≡ max (cond q n 0) (cond p (max u.arrival (latest (adds x) us)) (latest (adds x) us))
    later l true i true j true m = omega arith
    later l true i true j false m = absurd (eqb-false here k m (omega (arith, eqb-true x here i, eqb-true x k j)))
    later l true i false j true m = absurd (eqb-false x k j (omega (arith, eqb-true x here i, eqb-true here k m)))
    later l true i false j false m = omega arith
    later l false i true j r m = absurd (eqb-false x here i (omega (arith, eqb-true x k j, low)))
    later l false i false j r m = refl

    go : (t : Bool) → ltb x here ≡ t → (s : Bool) → eqb u.kind 1 ≡ s → ((m : ℕ) → Rest here m) → Rest k n →
        mine x (added_of k (cond t [] (u ∷ starting_to x us))) (arrived_of k n (cond t [] (u ∷ starting_to x us)))
        ≡ max (mine x k n) (cond (adds x u) (max u.arrival (latest (adds x) us)) (latest (adds x) us))
    go true f s g ih jh =
        let l = ltb-true x here f in
        rw (adds_beyond x u l, latest_none (adds x) us (any_beyond (adds x) x (adds_beyond x) us here l o)) (omega arith)
    go false f true g ih jh =
        put true g ∙ (ih _ ∙ (unfold adds in rw g (later (ltb-false x here f) (eqb x here) refl (eqb x k) refl (eqb here k) refl)))
    go false f false g ih jh = put false g ∙ (jh ∙ (unfold adds in rw g))

-- a cursor that follows questions up to a pair follows those up to a later one
pub follows_later : {b : List ℕ} {k x : ℕ} {cursor : Cursor} → Follows b k cursor → k ≤ x → Follows b x cursor
follows_later f h =
    record {
      passes = λ y l. f.passes y (omega arith);
      serves = record { most = λ y l. f.serves.most y (omega arith); just = λ y l. f.serves.just y (omega arith) };
    }

module _ {b : List ℕ} {k : ℕ} {cursor : Cursor} (f : Follows b k cursor) (x : ℕ) (h : k ≤ x) where
  abbrev us : List Update
  us = updates b

  -- the removal in hand behind the further updates, and one sought anew
  abbrev hand : Latest
  hand = (passing us cursor x).latest

  asked_next : (asked b x).next ≡ length (starting_to x us)
  asked_next = unfold asked passed_to behind in omega arith

  asked_removals : (asked b x).removals ≡ removals_of 0 0 (starting_to x us)
  asked_removals = unfold asked passed_to behind in refl

  passed_first : take cursor.passed.next us ++ starting_to x (drop cursor.passed.next us) ≡ starting_to x us
  unfolding passed_to behind
  passed_first =
      sym (take_further cursor.passed.next us x) ∙ (ap (λ n. take n us) (ap (λ p. p.next) (f.passes x h) ∙ asked_next) ∙ take_starting us x)

  serves_hand : Serves (λ y. latest (reaches_to y) (starting_to x us)) x hand
  unfolding passing
  serves_hand =
      serves_same (λ y. ap (latest (reaches_to y)) (sym passed_first) ∙ latest_append (reaches_to y) (take cursor.passed.next us) _)
      (serves_further _ (λ y. latest (reaches_to y) (take cursor.passed.next us)) x cursor.latest
      (follows_later f h).serves)

  serves_renewed : (a : ℕ) → Serves (λ y. latest (reaches_to y) (starting_to x us)) x (renewed us (removals_of 0 0 (starting_to x us)) hand x a)
  unfolding renewed
  serves_renewed a = go (ltb a hand.arrival && ltb hand.reach x)
    where
      n : ℕ
      n = removals_of 0 0 (starting_to x us)

      anew : Serves (λ y. latest (reaches_to y) (starting_to x us)) x (latest_of x none (take n us))
      anew =
          serves_same (λ y. sym (first_removals us x y) ∙ omega arith)
          (serves_further (take n us) (λ y. 0) x none (record { most = λ y l. omega arith; just = λ y l m. refl }))

      go : (t : Bool) → Serves (λ y. latest (reaches_to y) (starting_to x us)) x (cond t (latest_of x none (take n us)) hand)
      go true = anew
      go false = serves_hand

-- before the first question
pub follows_start : (b : List ℕ) (k : ℕ) → Follows b k start
unfolding asked latest
follows_start b k = record { passes = λ x h. refl; serves = record { most = λ x h. omega arith; just = λ x h l. refl } }

pub follows_next :
    {b : List ℕ} {k : ℕ} {cursor : Cursor} → Follows b k cursor → (ts : List ℕ) (x : ℕ) → k ≤ x → Follows b x (decided b ts cursor x).cursor
unfolding decided passing removal
follows_next {b} {k} {cursor} f ts x h =
    record {
      passes = λ y l. rw (f.passes x h) (passed_asked b x y l);
      serves = rw (f.passes x h, asked_next f x h, asked_removals f x h, take_starting (updates b) x) (go (leb x (asked b x).reach) (eqb x (asked b x).added) _);
    }
  where
    anew : ℕ → Latest
    anew a = renewed (updates b) (removals_of 0 0 (starting_to x (updates b))) (hand f x h) x a

    go : (s t r : Bool) →
        Serves (λ y. latest (reaches_to y) (starting_to x (updates b))) x
        (cond {A = Removal} s (cond t (record { latest = anew (asked b x).arrived; removed = r }) (record { latest = hand f x h; removed = true })) (record { latest = hand f x h; removed = false })).latest
    go true true r = serves_renewed f x h (asked b x).arrived
    go true false r = serves_hand f x h
    go false t r = serves_hand f x h

-- in a batch in order, with where its rounds reach to, what is decided is what the batch does to the pair
pub asked_facts : (b : List ℕ) (x : ℕ) → batch_number b ≡ 0 → 0 < x →
    (leb x (asked b x).reach ≡ any_update (covers 2 x) (updates b)) × (eqb x (asked b x).added ≡ any_update (adds x) (updates b))
unfolding asked passed_to behind
asked_facts b x e h =
    let o = (in_order b e).ordered in
    (rw (reaches 2 (updates b) x 0 0 o, lt-leb x 0 h), rw (adds_last (updates b) x 0 o, ne_eqb x 0 (omega arith)))

asked_arrived : (b : List ℕ) (x : ℕ) → batch_number b ≡ 0 → 0 < x → eqb x (asked b x).added ≡ true → (asked b x).arrived ≡ latest (adds x) (updates b)
unfolding asked passed_to behind mine
asked_arrived b x e h a =
    let r = adds_arrived (updates b) x 0 0 (in_order b e).ordered in
    let q : (asked b x).arrived ≡ max (cond (eqb x 0) 0 0) (latest (adds x) (updates b)) = rw a at r in
    q ∙ rw (ne_eqb x 0 (omega arith)) (omega arith)

pub follows_withdrawn :
    {b : List ℕ} {k : ℕ} {cursor : Cursor} → Follows b k cursor → batch_number b ≡ 0 → (x : ℕ) → k ≤ x → 0 < x →
    (decided b (round_reaches (updates b)) cursor x).withdrawn ≡ withdrawn (updates b) x
unfolding decided passing removal annulled
follows_withdrawn {b} {k} {cursor} f e x l h = rw (f.passes x l, asked_removals f x l, most) (go (eqb x (asked b x).added) refl (leb x (asked b x).reach) refl)
  where
    us : List Update
    us = updates b

    p : ℕ
    p = position x

    rounds : ℕ
    rounds = length (round_reaches us)

    most : min rounds (length b / 5) ≡ rounds
    most = omega (arith, rounds_few us 0, length_updates b)

    sought : ℕ
    sought = begun (starts us) rounds cursor.begun p

    formed : EachUpdate Formed us
    formed = formed_updates b e

    order : falls 0 us ≡ false
    order = (in_order b e).ordered

    annulled_by : reached (round_reaches us) sought p ≡ any_update (covers 3 p) us
    annulled_by = rounds_reached us formed order cursor.begun p (omega arith)

    covering : latest (reaches_to x) (starting_to x us) ≡ latest (covers 2 x) us
    covering = reaching us x 0 order

    -- where one adds the pair, a removal of its term arrived after that
    later : (a : ℕ) → ltb a (renewed us (removals_of 0 0 (starting_to x us)) (hand f x l) x a).arrival ≡ ltb a (latest (covers 2 x) us)
    later a = unfold renewed in found (ltb a (hand f x l).arrival) refl (ltb (hand f x l).reach x) refl
      where
        found : (s : Bool) → ltb a (hand f x l).arrival ≡ s → (t : Bool) → ltb (hand f x l).reach x ≡ t →
            ltb a (cond (s && t) (latest_of x none (take (removals_of 0 0 (starting_to x us)) us)) (hand f x l)).arrival ≡ ltb a (latest (covers 2 x) us)
        found true i true j = rw (latest_found (take (removals_of 0 0 (starting_to x us)) us) x none, first_removals us x x, covering) (let q : max 0 (latest (covers 2 x) us) ≡ latest (covers 2 x) us = omega arith in rw q)
        found true i false j = ap (ltb a) (sym ((serves_hand f x l).just x (omega arith) (ltb-false (hand f x l).reach x j)) ∙ covering)
        found false i t j =
            rw i (sym (le-ltb a (latest (covers 2 x) us) (omega (arith, covering, (serves_hand f x l).most x (omega arith), ltb-false a (hand f x l).arrival i))))

    -- a round did
    later_round : (a : ℕ) → (any_update (covers 3 p) us && (ltb a (asked b x).rounds && annuls_later us sought p a)) ≡ ltb a (latest (covers 3 p) us)
    later_round a =
        unfold annuls_later in
        rw (← starting_begun us formed order cursor.begun p (omega arith), take_starting us p, rounds_later us 0 p a formed order (omega arith), latest_after (covers 3 p) us a)
        (among (any_update (covers 3 p) us) refl (ltb a (asked b x).rounds) refl)
      where
        Later : Bool
        Later = any_update (λ u. covers 3 p u && ltb a u.arrival) us

        among : (t : Bool) → any_update (covers 3 p) us ≡ t → (r : Bool) → ltb a (asked b x).rounds ≡ r → (t && (r && Later)) ≡ Later
        among true i true j = refl
        among true i false j =
            let q : (asked b x).rounds ≡ rounds_of 0 (starting_to x us) = unfold asked passed_to behind in refl in
            sym (sym (latest_after (covers 3 p) us a) ∙ le-ltb a (latest (covers 3 p) us) (omega (arith, q, (rounds_passed us x p 0 0 (omega arith) order).1, ltb-false a (asked b x).rounds j)))
        among false i r j = sym (any_less (λ u. covers 3 p u && ltb a u.arrival) (covers 3 p) (λ u k. rw k) us i)

    -- so of the pair the latest removal arrived after the latest addition
    among : withdrawn us x ≡ (ltb (latest (adds x) us) (latest (covers 2 x) us) || ltb (latest (adds x) us) (latest (covers 3 p) us))
    among = unfold withdrawn removes in rw (latest_either (covers 2 x) (covers 3 p) us) (ltb_max (latest (adds x) us) (latest (covers 2 x) us) (latest (covers 3 p) us))

    anew : Latest
    anew = renewed us (removals_of 0 0 (starting_to x us)) (hand f x l) x (asked b x).arrived

    go : (is : Bool) → eqb x (asked b x).added ≡ is → (reach : Bool) → leb x (asked b x).reach ≡ reach →
        ((cond {A = Removal} reach (cond is (record { latest = anew; removed = ltb (asked b x).arrived anew.arrival }) (record { latest = hand f x l; removed = true }))
        (record { latest = hand f x l; removed = false })).removed
        || (reached (round_reaches us) sought p && cond is (ltb (asked b x).arrived (asked b x).rounds && annuls_later us sought p (asked b x).arrived) true))
        ≡ withdrawn us x
    go false i reach j =
        let a = asked_facts b x e h in
        let not-added : added us x ≡ false = unfold added in sym a.1 ∙ i in
        rw (withdrawn_removed b x e not-added, and-true (reached (round_reaches us) sought p), annulled_by) (unfold removed in rw (any_removes x us, ← a.0, j) (by reach))
      where
        by : (t : Bool) →
            ((cond {A = Removal} t (record { latest = hand f x l; removed = true }) (record { latest = hand f x l; removed = false })).removed || any_update (covers 3 p) us)
            ≡ (t || any_update (covers 3 p) us)
        by true = refl
        by false = refl
    go true i true j = rw (asked_arrived b x e h i, annulled_by, later_round (latest (adds x) us), later (latest (adds x) us), among)
    go true i false j =
        rw (asked_arrived b x e h i, annulled_by, later_round (latest (adds x) us), among, latest_none (covers 2 x) us (sym (asked_facts b x e h).0 ∙ j), le-ltb (latest (adds x) us) 0 (omega arith))
