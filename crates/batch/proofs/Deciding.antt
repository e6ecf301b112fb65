-- The latest record that touches a pair decides.
use Prim.Native.Nat.{ℕ, max, ◌≤◌, ◌<◌}
use native.Mathlib.Omega.{arith}
use mathlib.Core.Path.{◌≡◌, refl, sym, ◌∙◌}
use mathlib.Core.Bool.{Bool, true, false, cond, ◌&&◌, ◌||◌, not, and-false, false≢true}
use mathlib.Core.List.{List, [], ◌∷◌, ◌++◌}
use lib.Dec.{ltb, eqb}
use borrow.Author.Tests.{ltb-false, lt-ltb, le-ltb, eqb-true, ne_eqb}
use Rattle.pair.specs.Rank.{rank}
use Rattle.pair.specs.Rising.{keep, any}
use Rattle.pair.proofs.Rising.{rises_from, rises_keep}
use Rattle.pair.proofs.Sets.{has, has_keep, rises_ext}
use Rattle.pair.proofs.Tests.{and_left, or_left, or_right, contradiction}
use Rattle.batch.specs.Batch.{Update, updates, any_update, adds, removes, latest, withdrawn, with_added, applied}
use Rattle.batch.specs.Claims.{touches, LatestDecides, UntouchedStays, AdditionsLast}
use Rattle.batch.proofs.Any.{any_with, any_less}
use Rattle.batch.proofs.Arriving.{latest_after, latest_none, latest_either, latest_with_law, latest_below}
use Rattle.batch.proofs.InOrder.{withdrawn_removed}
use Rattle.batch.proofs.Meaning.{added, removed, has_with_added, has_applied, rises_with_added, rises_applied}

-- an addition removes nothing
addition_keeps : (x : ℕ) (u : Update) → eqb u.kind 1 ≡ true → removes x u ≡ false
unfolding removes
addition_keeps x u e =
    let k = eqb-true u.kind 1 e in
    rw (ne_eqb u.kind 2 (omega arith), ne_eqb u.kind 3 (omega arith))

pub latest_decides : LatestDecides
unfolding LatestDecides touches withdrawn adds added has
latest_decides us vs u x s p e h =
    has_applied x (us ++ u ∷ vs) s
    ∙ rw (latest_with_law (adds x) us vs u, latest_with_law (removes x) us vs u, any_with (adds x) us vs u) (go (adds x u) refl (removes x u) refl e)
  where
    below : latest (touches x) (us ++ vs) < u.arrival
    below = latest_below (touches x) (us ++ vs) u.arrival p h

    among : latest (touches x) (us ++ vs) ≡ max (latest (adds x) (us ++ vs)) (latest (removes x) (us ++ vs))
    among = latest_either (adds x) (removes x) (us ++ vs)

    go : (a : Bool) → adds x u ≡ a → (r : Bool) → removes x u ≡ r → (a || r) ≡ true →
        (not (ltb (cond a (max u.arrival (latest (adds x) (us ++ vs))) (latest (adds x) (us ++ vs)))
        (cond r (max u.arrival (latest (removes x) (us ++ vs))) (latest (removes x) (us ++ vs))))
        && ((a || any_update (adds x) (us ++ vs)) || any (eqb x) s)) ≡ a
    go true i true j t = contradiction (removes x u) j (addition_keeps x u (and_left (eqb u.kind 1) (eqb x (rank u.term u.from)) i))
    go true i false j t = rw (le-ltb (max u.arrival (latest (adds x) (us ++ vs))) (latest (removes x) (us ++ vs)) (omega (arith, below, among)))
    go false i true j t = rw (lt-ltb (latest (adds x) (us ++ vs)) (max u.arrival (latest (removes x) (us ++ vs))) (omega (arith, below, among)))
    go false i false j t = absurd (false≢true t)

pub untouched_stays : UntouchedStays
unfolding UntouchedStays touches withdrawn added has
untouched_stays us x s h =
    has_applied x us s
    ∙ rw (
      latest_none (removes x) us (any_less (removes x) (touches x) (λ u. or_right (adds x u) (removes x u)) us h),
      any_less (adds x) (touches x) (λ u. or_left (adds x u) (removes x u)) us h,
      le-ltb (latest (adds x) us) 0 (omega arith),
    )

-- the removals that arrived after the update
removed_after : List Update → Update → Bool
removed_after us u = any_update (λ v. not (eqb v.kind 1) && ltb u.arrival v.arrival) us

pub additions_last : AdditionsLast
unfolding AdditionsLast removed added withdrawn any_update adds latest removed_after
additions_last b s e r h =
    rises_ext (applied us s) (with_added us rest) (rises_applied us s (rises_from s 0 r))
    (rises_with_added us rest (rises_keep (λ x. not (removed us x)) s (rises_from s 0 r))) members
  where
    us : List Update
    us = updates b

    rest : List ℕ
    rest = keep (λ x. not (removed us x)) s

    -- where none arrived after an addition, none that removes the pair did
    before : (u : Update) (x : ℕ) → removed_after us u ≡ false → latest (removes x) us ≤ u.arrival
    before u x f =
        ltb-false u.arrival (latest (removes x) us)
        (latest_after (removes x) us u.arrival
        ∙ any_less (λ v. removes x v && ltb u.arrival v.arrival) (λ v. not (eqb v.kind 1) && ltb u.arrival v.arrival) less us f)
      where
        less : (v : Update) → (not (eqb v.kind 1) && ltb u.arrival v.arrival) ≡ false → (removes x v && ltb u.arrival v.arrival) ≡ false
        less v g = go (eqb v.kind 1) refl g
          where
            go : (t : Bool) → eqb v.kind 1 ≡ t → (not t && ltb u.arrival v.arrival) ≡ false → (removes x v && ltb u.arrival v.arrival) ≡ false
            go true i j = rw (addition_keeps x v i)
            go false i j = rw (j, and-false (removes x v))

    wins : (ws : List Update) (x : ℕ) → any_update (λ u. eqb u.kind 1 && removed_after us u) ws ≡ false → any_update (adds x) ws ≡ true →
        latest (removes x) us ≤ latest (adds x) ws
    wins [] x f a = absurd (false≢true a)
    wins (u ∷ ws) x f a =
        go (eqb u.kind 1) (eqb x (rank u.term u.from)) (or_left (eqb u.kind 1 && removed_after us u) (any_update (λ v. eqb v.kind 1 && removed_after us v) ws) f) a
        (wins ws x (or_right (eqb u.kind 1 && removed_after us u) (any_update (λ v. eqb v.kind 1 && removed_after us v) ws) f))
      where
        go : (k t : Bool) → (k && removed_after us u) ≡ false → ((k && t) || any_update (adds x) ws) ≡ true →
            (any_update (adds x) ws ≡ true → latest (removes x) us ≤ latest (adds x) ws) →
            latest (removes x) us ≤ cond (k && t) (max u.arrival (latest (adds x) ws)) (latest (adds x) ws)
        go true true f a ih = omega (arith, before u x f)
        go true false f a ih = ih a
        go false t f a ih = ih a

    members : (x : ℕ) → has x (applied us s) ≡ has x (with_added us rest)
    members x =
        has_applied x us s ∙ (go (added us x) refl ∙ sym (has_with_added x us rest ∙ rw (has_keep x (λ y. not (removed us y)) s)))
      where
        go : (a : Bool) → added us x ≡ a → (not (withdrawn us x) && (a || has x s)) ≡ (a || (not (removed us x) && has x s))
        go true i = rw (le-ltb (latest (adds x) us) (latest (removes x) us) (wins us x h i))
        go false i = rw (withdrawn_removed b x e i)
