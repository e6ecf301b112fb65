-- Records with their numbers, and numbers that are counted.
use Prim.Native.Nat.{ℕ, zero, suc, ◌≤◌, ◌<◌}
use native.Mathlib.Omega.{arith}
use mathlib.Core.Path.{◌≡◌, refl, sym, ap, ◌∙◌}
use mathlib.Core.Bool.{Bool, true, false, cond, ◌&&◌, ◌||◌, and-false, false≢true}
use mathlib.Core.List.{List, [], ◌∷◌, ◌++◌}
use borrow.Author.Tests.{lt-leb, eq-eqb, ne_eqb, eqb-true}
use lib.ListN.{length, drop, get_or, length-append}
use lib.Dec.{leb, eqb}
use Rattle.pair.specs.Rising.{any}
use Rattle.pair.proofs.Tests.{or_both}
use Rattle.repeat.specs.Repeats.{repeats}
use Rattle.batch.specs.Batch.{Update, any_update, arrivals, ill_numbered}
use Rattle.batch.proofs.Any.{any_less}
use Rattle.sort.specs.Claims.{those, Rearranged}
use Rattle.sort.proofs.Records.{Wide}
use Rattle.lines.specs.Lines.{numbered}
use Rattle.lines.specs.Claims.{counted}

pub numbered_next : (n : ℕ) (r : List ℕ) (rs : List (List ℕ)) → numbered n (r ∷ rs) ≡ (r ++ n ∷ []) ∷ numbered (suc n) rs
unfolding numbered
numbered_next n r rs = refl

pub numbered_length : (n : ℕ) (rs : List (List ℕ)) → length (numbered n rs) ≡ length rs
unfolding numbered
numbered_length n [] = refl
numbered_length n (r ∷ rs) = ap suc (numbered_length (suc n) rs)

-- each is a word longer
pub numbered_wide : (n : ℕ) (rs : List (List ℕ)) → Wide 4 rs → Wide 5 (numbered n rs)
unfolding numbered
numbered_wide n [] w = tt
numbered_wide n (r ∷ rs) w = (length-append r (n ∷ []) ∙ omega (arith, w.0), numbered_wide (suc n) rs w.1)

-- where those that pass a test are none, no number passes it
none_any : (f : ℕ → Bool) (ns : List ℕ) → length (those f ns) ≡ 0 → any f ns ≡ false
unfolding those any
none_any f [] h = refl
none_any f (n ∷ ns) h = go (none_any f ns) (f n) h
  where
    go : (length (those f ns) ≡ 0 → any f ns ≡ false) → (t : Bool) → length (cond t (n ∷ those f ns) (those f ns)) ≡ 0 → (t || any f ns) ≡ false
    go ih true h = absurd (omega (arith, h))
    go ih false h = ih h

-- where each number stands at most once none stands twice
once_repeats : (ns : List ℕ) → ((m : ℕ) → length (those (eqb m) ns) ≤ 1) → repeats ns ≡ false
unfolding those repeats
once_repeats [] h = refl
once_repeats (n ∷ ns) h = or_both (any (eqb n) ns) (repeats ns) (none_any (eqb n) ns (here (eqb n n) (eq-eqb n n refl) (h n))) (once_repeats ns (λ m. later (eqb m n) (those (eqb m) ns) (h m)))
  where
    here : (t : Bool) → t ≡ true → length (cond t (n ∷ those (eqb n) ns) (those (eqb n) ns)) ≤ 1 → length (those (eqb n) ns) ≡ 0
    here true e h = omega (arith, h)
    here false e h = absurd (false≢true e)

    later : (t : Bool) (ms : List ℕ) → length (cond t (n ∷ ms) ms) ≤ 1 → length ms ≤ 1
    later true ms h = omega (arith, h)
    later false ms h = h

-- counted numbers: none is below the first, and each stands at most once
counted_below : (n k m : ℕ) → m < k → length (those (eqb m) (counted k n)) ≡ 0
unfolding those counted
counted_below zero k m h = refl
counted_below (suc n) k m h = rw (ne_eqb m k (λ e. omega (arith, e, h))) (counted_below n (suc k) m (omega (arith, h)))

counted_once : (n k m : ℕ) → length (those (eqb m) (counted k n)) ≤ 1
unfolding those counted
counted_once zero k m = omega arith
counted_once (suc n) k m = go (counted_once n (suc k) m) (eqb m k) refl
  where
    go : length (those (eqb m) (counted (suc k) n)) ≤ 1 → (t : Bool) → eqb m k ≡ t →
        length (cond t (k ∷ those (eqb m) (counted (suc k) n)) (those (eqb m) (counted (suc k) n))) ≤ 1
    go ih true e = omega (arith, counted_below n (suc k) m (let i = eqb-true m k e in omega (arith, i)))
    go ih false e = ih

-- as many arrival numbers pass a test as updates that have such a number
those_arrivals : (f : ℕ → Bool) (us : List Update) → length (those f (arrivals us)) ≡ length (those (λ u. f u.arrival) us)
unfolding those arrivals
those_arrivals f [] = refl
those_arrivals f (u ∷ us) = go (those_arrivals f us) (f u.arrival)
  where
    go : length (those f (arrivals us)) ≡ length (those (λ v. f v.arrival) us) → (t : Bool) →
        length (cond t (u.arrival ∷ those f (arrivals us)) (those f (arrivals us))) ≡
        length (cond t (u ∷ those (λ v. f v.arrival) us) (those (λ v. f v.arrival) us))
    go ih true = ap suc ih
    go ih false = ih

-- updates whose arrival numbers are counted from 1, in another order: none is 0, and none is used twice
pub counted_numbers : (us vs : List Update) (n : ℕ) → Rearranged us vs → arrivals vs ≡ counted 1 n → ill_numbered us ≡ false
unfolding ill_numbered Rearranged
counted_numbers us vs n r e =
    or_both (any (eqb 0) (arrivals us)) (repeats (arrivals us)) (none_any (eqb 0) (arrivals us) (alike 0 ∙ counted_below n 1 0 (omega arith)))
    (once_repeats (arrivals us) (λ m. rw (alike m) (counted_once n 1 m)))
  where
    alike : (m : ℕ) → length (those (eqb m) (arrivals us)) ≡ length (those (eqb m) (counted 1 n))
    alike m = those_arrivals (eqb m) us ∙ r (λ u. eqb m u.arrival) ∙ sym (those_arrivals (eqb m) vs) ∙ ap (λ ns. length (those (eqb m) ns)) e

-- among updates counted in their order those before an update arrived before it
pub counted_last :
    (f : Update → Bool) (us vs : List Update) (u : Update) (k n : ℕ) → arrivals (us ++ u ∷ vs) ≡ counted k n → any_update f vs ≡ false →
    (k ≤ u.arrival) × (any_update (λ v. f v && leb u.arrival v.arrival) (us ++ vs) ≡ false)
unfolding arrivals counted any_update
counted_last f [] vs u k zero e h = absurd (omega (arith, ap length e))
counted_last f [] vs u k (suc n) e h =
    let here : u.arrival ≡ k = ap (λ l. get_or l 0 0) e in
    (omega (arith, here), any_less (λ v. f v && leb u.arrival v.arrival) f (λ v g. rw g) vs h)
counted_last f (w ∷ us) vs u k zero e h = absurd (omega (arith, ap length e))
counted_last f (w ∷ us) vs u k (suc n) e h =
    let r = counted_last f us vs u (suc k) n (ap (drop 1) e) h in
    let first : w.arrival ≡ k = ap (λ l. get_or l 0 0) e in (
      omega (arith, r.0),
      or_both (f w && leb u.arrival w.arrival) (any_update (λ v. f v && leb u.arrival v.arrival) (us ++ vs))
          (rw (lt-leb u.arrival w.arrival (omega (arith, first, r.0))) (and-false (f w))) r.1,
    )
