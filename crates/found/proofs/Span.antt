-- The blocks that a lookup reads in a segment are at most one more than those that hold a live posting in range.
use Prim.Native.Nat.{ℕ, suc, ◌+◌, ◌-◌, ◌≤◌, ◌<◌, zero-le}
use native.Mathlib.Omega.{arith}
use mathlib.Core.Path.{◌≡◌, refl, sym, ◌∙◌}
use mathlib.Core.Bool.{Bool, true, false, cond, ◌&&◌, ◌||◌}
use mathlib.Core.List.{List, [], ◌∷◌}
use lib.ListN.{length, get_or}
use lib.Dec.{ltb, leb, eqb}
use borrow.Author.Tests.{ltb-true, lt-ltb, leb-false, le-leb, lt-leb, eqb-true}
use Rattle.pair.specs.Rank.{rank}
use Rattle.pair.specs.Rising.{rising_from, last, any}
use Rattle.pair.proofs.Rising.{any_last, rising_cons, rising_head, rising_tail, rising_last, rising_first, rising_second}
use Rattle.pair.proofs.Tests.{and_left, and_right}
use Rattle.block.specs.Block.{pairs, formed}
use Rattle.block.proofs.Reading.{formed_some}
use Rattle.card.specs.Layout.{first_pair, place, pairs_at}
use Rattle.card.specs.Sound.{blocks_sound, first_reaches}
use Rattle.found.specs.Found.{mapped_to, span, holders}

-- the first of a rising list lies above its start and at most at its end
first_between : (ks : List ℕ) (j : ℕ) → 0 < length ks → rising_from j ks ≡ true → (j < get_or ks 0 0) × (get_or ks 0 0 ≤ last j ks)
unfolding last
first_between [] j l r = absurd (omega arith)
first_between (k ∷ ks) j l r = (rising_head k ks j r, rising_last ks k (rising_tail k ks j r))

head_rising : (ks : List ℕ) (j : ℕ) → 0 < length ks → rising_from j ks ≡ true → rising_from (get_or ks 0 0 - 1) ks ≡ true
head_rising [] j l r = absurd (omega arith)
head_rising (k ∷ ks) j l r = rising_cons k ks (k - 1) (omega (arith, rising_head k ks j r)) (rising_tail k ks j r)

any_first : (f : ℕ → Bool) (ks : List ℕ) → 0 < length ks → f (get_or ks 0 0) ≡ true → any f ks ≡ true
unfolding any
any_first f [] l h = absurd (omega arith)
any_first f (k ∷ ks) l h = rw h

-- what holds of the first of some sound places whose pairs rise above j
pub record First (c : List ℕ) (j i : ℕ) (is : List ℕ) : Type 0 where
  pub low : j < first_pair c i
  pub high : first_pair c i ≤ last j (pairs (place c i))
  pub rises : rising_from j (pairs (place c i)) ≡ true
  pub from : rising_from (first_pair c i - 1) (pairs (place c i)) ≡ true
  pub behind : rising_from (last j (pairs (place c i))) (pairs_at c is) ≡ true
  pub sound : blocks_sound c is ≡ true
  pub holds : (f : ℕ → Bool) → f (first_pair c i) ≡ true → any f (pairs (place c i)) ≡ true

pub first : (c : List ℕ) (j i : ℕ) (is : List ℕ) → blocks_sound c (i ∷ is) ≡ true → rising_from j (pairs_at c (i ∷ is)) ≡ true → First c j i is
unfolding blocks_sound pairs_at
first c j i is s r =
    let ks = pairs (place c i) in
    let whole : (formed (place c i) && eqb (first_pair c i) (get_or ks 0 0)) ≡ true = and_left _ (blocks_sound c is) s in
    let some : 0 < length ks = formed_some (place c i) (and_left _ (eqb (first_pair c i) (get_or ks 0 0)) whole) in
    let entry : first_pair c i ≡ get_or ks 0 0 = eqb-true _ _ (and_right (formed (place c i)) _ whole) in
    let here : rising_from j ks ≡ true = rising_first ks (pairs_at c is) j r in
    let between = first_between ks j some here in
    record {
      low = rw entry between.0;
      high = rw entry between.1;
      rises = here;
      from = rw entry (head_rising ks j some here);
      behind = rising_second ks (pairs_at c is) j r;
      sound = and_right (formed (place c i) && eqb (first_pair c i) (get_or ks 0 0)) _ s;
      holds = λ f h. any_first f ks some (rw entry at h);
    }

-- no place whose pairs lie above k has a map pair of at most k
pub mapped_none : (c : List ℕ) (k j : ℕ) (is : List ℕ) → blocks_sound c is ≡ true → rising_from j (pairs_at c is) ≡ true → k ≤ j → mapped_to c k is ≡ 0
unfolding mapped_to
mapped_none c k j [] s r h = refl
mapped_none c k j (i ∷ is) s r h =
    let f = first c j i is s r in
    let m = last j (pairs (place c i)) in
    let rest : mapped_to c k is ≡ 0 = mapped_none c k m is f.sound f.behind (omega (arith, rising_last (pairs (place c i)) j f.rises)) in
    rw (rest, lt-leb (first_pair c i) k (omega (arith, f.low)))

-- the map pairs of sound places rise, so that the places up to the last whose map pair is at most k are the leading ones whose map pair is
pub mapped_leading : (c : List ℕ) (k j i : ℕ) (is : List ℕ) → blocks_sound c (i ∷ is) ≡ true → rising_from j (pairs_at c (i ∷ is)) ≡ true →
    mapped_to c k (i ∷ is) ≡ cond (leb (first_pair c i) k) (suc (mapped_to c k is)) 0
unfolding mapped_to
mapped_leading c k j i is s r = go (leb (first_pair c i) k) refl
  where
    go : (b : Bool) → leb (first_pair c i) k ≡ b →
        cond (b || ltb 0 (mapped_to c k is)) (suc (mapped_to c k is)) 0 ≡ cond b (suc (mapped_to c k is)) 0
    go true e = refl
    go false e =
        let f = first c j i is s r in
        let less : k < first_pair c i = leb-false (first_pair c i) k e in
        let rest : mapped_to c k is ≡ 0 = mapped_none c k (last j (pairs (place c i))) is f.sound f.behind (omega (arith, f.high)) in
        rw rest

-- places whose pairs all lie above k and a: each with a map pair of at most z holds a live posting in range
mapped_to_above : (c : List ℕ) (k a z j : ℕ) (is : List ℕ) → blocks_sound c is ≡ true → rising_from j (pairs_at c is) ≡ true →
    k ≤ j → a ≤ j → mapped_to c z is ≤ holders c k a z is
unfolding holders
mapped_to_above c k a z j [] s r hk ha = unfold mapped_to in omega arith
mapped_to_above c k a z j (i ∷ is) s r hk ha =
    let f = first c j i is s r in
    let l : j ≤ last j (pairs (place c i)) = rising_last (pairs (place c i)) j f.rises in
    rw (mapped_leading c z j i is s r)
    (go f (mapped_to_above c k a z (last j (pairs (place c i))) is f.sound f.behind (omega arith) (omega arith)) (leb (first_pair c i) z) refl)
  where
    go : First c j i is → mapped_to c z is ≤ holders c k a z is → (s : Bool) → leb (first_pair c i) z ≡ s →
        cond s (suc (mapped_to c z is)) 0
        ≤ cond (any (λ x. ltb k x && leb a x && leb x z) (pairs (place c i))) (suc (holders c k a z is)) (holders c k a z is)
    go f ih true e =
        let one : any (λ x. ltb k x && leb a x && leb x z) (pairs (place c i)) ≡ true
        = f.holds _ (rw (e, lt-ltb k (first_pair c i) (omega (arith, f.low)), le-leb a (first_pair c i) (omega (arith, f.low)))) in
        rw one (omega arith)
    go f ih false e = omega arith

counted : (s : Bool) (n : ℕ) → n ≤ cond s (suc n) n
counted true n = omega arith
counted false n = omega arith

-- places whose pairs all lie above k: past those with a map pair of at most a, each with one of at most z holds a live posting in range
mapped_to_rest : (c : List ℕ) (k a z j : ℕ) (is : List ℕ) → blocks_sound c is ≡ true → rising_from j (pairs_at c is) ≡ true →
    k ≤ j → mapped_to c z is ≤ holders c k a z is + mapped_to c a is
unfolding holders
mapped_to_rest c k a z j [] s r hk = unfold mapped_to in omega arith
mapped_to_rest c k a z j (i ∷ is) s r hk =
    let f = first c j i is s r in
    let l : j ≤ last j (pairs (place c i)) = rising_last (pairs (place c i)) j f.rises in
    let m : ℕ = last j (pairs (place c i)) in
    rw (mapped_leading c z j i is s r, mapped_leading c a j i is s r)
    (go f (mapped_to_rest c k a z m is f.sound f.behind (omega arith))
    (mapped_to_above c k a z m is f.sound f.behind (omega arith)) (leb (first_pair c i) z) (leb (first_pair c i) a) refl refl)
  where
    held : Bool
    held = any (λ x. ltb k x && leb a x && leb x z) (pairs (place c i))

    go : First c j i is → mapped_to c z is ≤ holders c k a z is + mapped_to c a is →
        (a ≤ last j (pairs (place c i)) → mapped_to c z is ≤ holders c k a z is) →
        (s u : Bool) → leb (first_pair c i) z ≡ s → leb (first_pair c i) a ≡ u →
        cond s (suc (mapped_to c z is)) 0
        ≤ cond held (suc (holders c k a z is)) (holders c k a z is) + cond u (suc (mapped_to c a is)) 0
    go f ih above true true e g = omega (arith, counted held (holders c k a z is))
    go f ih above true false e g =
        let less : a < first_pair c i = leb-false (first_pair c i) a g in
        let low : j < first_pair c i = f.low in
        let one : held ≡ true = f.holds _ (rw (e, lt-ltb k (first_pair c i) (omega arith), le-leb a (first_pair c i) (omega arith))) in
        rw one (omega (arith, above (omega (arith, f.high))))
    go f ih above false u e g = omega arith

-- in a segment of sound places, the first of which reaches above k, the span is at most one more than the blocks that hold a live posting in range
pub span_bound : (c : List ℕ) (k t a z : ℕ) (is : List ℕ) → blocks_sound c is ≡ true → rising_from 0 (pairs_at c is) ≡ true →
    first_reaches c k is ≡ true → span c t a z is ≤ holders c k (rank t a) (rank t z) is + 1
unfolding span holders first_reaches
span_bound c k t a z [] s r h = unfold mapped_to in omega arith
span_bound c k t a z (i ∷ is) s r h =
    let f = first c 0 i is s r in
    let m : ℕ = last 0 (pairs (place c i)) in
    let reach : k < m = ltb-true k m (sym (any_last (pairs (place c i)) 0 k f.rises zero-le) ∙ h) in
    rw (mapped_leading c (rank t z) 0 i is s r, mapped_leading c (rank t a) 0 i is s r)
    (go f (mapped_to_rest c k (rank t a) (rank t z) m is f.sound f.behind (omega arith))
    (mapped_to_above c k (rank t a) (rank t z) m is f.sound f.behind (omega arith))
    (leb (first_pair c i) (rank t z)) (leb (first_pair c i) (rank t a)) refl refl)
  where
    held : Bool
    held = any (λ x. ltb k x && leb (rank t a) x && leb x (rank t z)) (pairs (place c i))

    go : First c 0 i is → mapped_to c (rank t z) is ≤ holders c k (rank t a) (rank t z) is + mapped_to c (rank t a) is →
        (rank t a ≤ last 0 (pairs (place c i)) → mapped_to c (rank t z) is ≤ holders c k (rank t a) (rank t z) is) →
        (s u : Bool) → leb (first_pair c i) (rank t z) ≡ s → leb (first_pair c i) (rank t a) ≡ u →
        cond s (suc (mapped_to c (rank t z) is)) 0 - (cond u (suc (mapped_to c (rank t a) is)) 0 - 1)
        ≤ cond held (suc (holders c k (rank t a) (rank t z) is)) (holders c k (rank t a) (rank t z) is) + 1
    go f rest above true true e g = omega (arith, counted held (holders c k (rank t a) (rank t z) is))
    go f rest above true false e g =
        let less : rank t a < first_pair c i = leb-false (first_pair c i) (rank t a) g in
        omega (arith, counted held (holders c k (rank t a) (rank t z) is), above (omega (arith, f.high)))
    go f rest above false u e g = omega arith
