-- What is claimed of annulled rounds.
use Prim.Native.Nat.{ℕ, max, ◌≤◌, ◌<◌}
use native.Mathlib.Omega.{arith}
use mathlib.Core.Path.{◌≡◌, refl, ap, ap₂, ◌∙◌}
use mathlib.Core.Bool.{Bool, true, false, cond, ◌&&◌, not, false≢true}
use mathlib.Core.List.{List, [], ◌∷◌}
use mathlib.Core.Logic.{◌⊎◌, inl, inr}
use lib.Dec.{ltb, leb, eqb}
use borrow.Author.Tests.{lt-ltb, le-leb, eqb-true}
use Rattle.pair.specs.Rank.{word_limit, rank, position}
use Rattle.pair.specs.Rising.{any}
use Rattle.pair.proofs.Keep.{keep_same}
use Rattle.pair.proofs.Order.{position_rank}
use Rattle.pair.proofs.Sets.{has}
use Rattle.pair.proofs.Tests.{and_left, and_right, and_both, or_cases, or_intro, contradiction}
use Rattle.batch.specs.Batch.{Update, updates, any_update, covers, removes, adds, latest, withdrawn, with_added, applied}
use Rattle.batch.specs.Claims.{RoundAlone, RoundAnnulled}
use Rattle.batch.proofs.Arriving.{latest_below}
use Rattle.batch.proofs.Meaning.{has_applied}

pub round_alone : RoundAlone
unfolding RoundAlone updates applied with_added withdrawn latest adds removes
round_alone a z n s h = keep_same _ _ withdraws s
  where
    only : (t : Bool) → ltb 0 (cond t (max n 0) 0) ≡ t
    only true = lt-ltb 0 (max n 0) (omega arith)
    only false = refl

    withdraws : (x : ℕ) → not (withdrawn (updates (3 ∷ 0 ∷ a ∷ z ∷ n ∷ [])) x) ≡ not (leb a (position x) && leb (position x) z)
    withdraws x =
        let low : rank 0 a ≡ a = omega arith in
        let high : rank 0 z ≡ z = omega arith in
        ap not (only (leb (rank 0 a) (position x) && leb (position x) (rank 0 z)) ∙ ap₂ (λ l h. leb l (position x) && leb (position x) h) low high)

-- the latest removal of the pairs of its positions arrived with it or after it
annuls : (us : List Update) (a z n t p : ℕ) →
    any_update (λ u. eqb u.kind 3 && eqb u.term 0 && eqb u.from a && eqb u.to z && eqb u.arrival n) us ≡ true →
    a ≤ p → p ≤ z → p < word_limit → n ≤ latest (removes (rank t p)) us
unfolding any_update removes latest
annuls [] a z n t p h l m w = absurd (false≢true h)
annuls (u ∷ us) a z n t p h l m w = go (or_cases (named u) (any_update named us) h) (λ i. annuls us a z n t p i l m w)
  where
    named : Update → Bool
    named v = eqb v.kind 3 && eqb v.term 0 && eqb v.from a && eqb v.to z && eqb v.arrival n

    more : (s : Bool) → n ≤ latest (removes (rank t p)) us → n ≤ cond s (max u.arrival (latest (removes (rank t p)) us)) (latest (removes (rank t p)) us)
    more true k = omega arith
    more false k = k

    go : (named u ≡ true) ⊎ (any_update named us ≡ true) → (any_update named us ≡ true → n ≤ latest (removes (rank t p)) us) → n ≤ latest (removes (rank t p)) (u ∷ us)
    go (inl e) ih =
        let f = and_left (eqb u.kind 3 && eqb u.term 0 && eqb u.from a && eqb u.to z) (eqb u.arrival n) e in
        let d = and_left (eqb u.kind 3 && eqb u.term 0 && eqb u.from a) (eqb u.to z) f in
        let c = and_left (eqb u.kind 3 && eqb u.term 0) (eqb u.from a) d in
        let none : u.term ≡ 0 = eqb-true u.term 0 (and_right (eqb u.kind 3) (eqb u.term 0) c) in
        let from : u.from ≡ a = eqb-true u.from a (and_right (eqb u.kind 3 && eqb u.term 0) (eqb u.from a) d) in
        let to : u.to ≡ z = eqb-true u.to z (and_right (eqb u.kind 3 && eqb u.term 0 && eqb u.from a) (eqb u.to z) f) in
        let is : u.arrival ≡ n = eqb-true u.arrival n (and_right (eqb u.kind 3 && eqb u.term 0 && eqb u.from a && eqb u.to z) (eqb u.arrival n) e) in
        let covered : covers 3 (position (rank t p)) u ≡ true =
        rw (position_rank t p w)
        (and_both (eqb u.kind 3 && leb (rank u.term u.from) p) (leb p (rank u.term u.to))
        (and_both (eqb u.kind 3) (leb (rank u.term u.from) p) (and_left (eqb u.kind 3) (eqb u.term 0) c) (le-leb (rank u.term u.from) p (omega arith)))
        (le-leb p (rank u.term u.to) (omega arith))) in
        rw (or_intro (covers 2 (rank t p) u) (covers 3 (position (rank t p)) u) (inr covered)) (omega arith)
    go (inr i) ih = more (removes (rank t p) u) (ih i)

pub round_annulled : RoundAnnulled
unfolding RoundAnnulled withdrawn has
round_annulled us a z n t p s h o l m w present = go (any_update (λ u. adds x u && leb n u.arrival) us) refl
  where
    x : ℕ
    x = rank t p

    go : (k : Bool) → any_update (λ u. adds x u && leb n u.arrival) us ≡ k → k ≡ true
    go true e = refl
    go false e =
        contradiction (any (eqb x) (applied us s)) present
        (has_applied x us s ∙ rw (lt-ltb (latest (adds x) us) (latest (removes x) us) (omega (arith, latest_below (adds x) us n o e, annuls us a z n t p h l m w))))
