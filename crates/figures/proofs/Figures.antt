-- Decimal figures: how many there are, and which comes first.
use Prim.Native.Nat.{ℕ, zero, suc, ◌/◌, ◌%◌, ◌^◌, ◌≤◌, ◌<◌, zero-le}
use native.Mathlib.Omega.{arith}
use mathlib.Core.Path.{◌≡◌, refl}
use mathlib.Core.Bool.{Bool, true, false, cond}
use mathlib.Core.List.{[], ◌∷◌, ◌++◌}
use borrow.Author.Tests.{ltb-true, ltb-false, eq-eqb, ne_eqb}
use lib.ListN.{length, get_or, length-append, get_or-append}
use lib.Dec.{ltb, eqb}
use Rattle.pair.specs.Rank.{word_limit}
use Rattle.figures.specs.Figures.{figure, last_figures, decimal}
use Rattle.figures.specs.code.Reading.{leading}

-- more figures than there are change nothing
figures_enough : (k l n : ℕ) → n < k → n < l → last_figures k n ≡ last_figures l n
unfolding last_figures
figures_enough zero l n h i = absurd (omega arith)
figures_enough (suc k) zero n h i = absurd (omega arith)
figures_enough (suc k) (suc l) n h i = go (figures_enough k l (n / 10)) (ltb n 10) refl
  where
    go : (n / 10 < k → n / 10 < l → last_figures k (n / 10) ≡ last_figures l (n / 10)) → (s : Bool) → ltb n 10 ≡ s → last_figures (suc k) n ≡ last_figures (suc l) n
    go ih true e = rw e
    go ih false e = let m : 10 ≤ n = ltb-false n 10 e in rw (e, ih (omega arith) (omega arith))

-- a number's figures are those of its tenth and one more
pub decimal_last : (n : ℕ) → decimal n ≡ leading (n / 10) ++ figure (n % 10) ∷ []
unfolding decimal last_figures leading
decimal_last n = go (ltb n 10) refl
  where
    go : (s : Bool) → ltb n 10 ≡ s → decimal n ≡ leading (n / 10) ++ figure (n % 10) ∷ []
    go true e =
        let l : n < 10 = ltb-true n 10 e in
        let q : n / 10 ≡ 0 = omega arith in
        let r : n % 10 ≡ n = omega arith in
        rw (e, q, r)
    go false e =
        let l : 10 ≤ n = ltb-false n 10 e in
        let q : eqb (n / 10) 0 ≡ false = ne_eqb (n / 10) 0 (λ z. omega arith) in
        rw (e, q, figures_enough n (suc (n / 10)) (n / 10) (omega arith) (omega arith))

pub leading_none : (n : ℕ) → n ≡ 0 → leading n ≡ []
unfolding leading
leading_none n e = rw (eq-eqb n 0 e)

pub leading_some : (n : ℕ) → (n ≡ 0 → ⊥) → leading n ≡ decimal n
unfolding leading
leading_some n h = rw (ne_eqb n 0 h)

-- below the k-th power of ten there are at most k figures
pub leading_few : (k n : ℕ) → n < 10 ^ k → length (leading n) ≤ k
leading_few zero n h = rw (leading_none n (omega arith)) zero-le
leading_few (suc k) zero h = rw (leading_none 0 refl) zero-le
leading_few (suc k) (suc n) h =
    let m = suc n in
    let less : m / 10 < 10 ^ k = omega arith in
    rw (leading_some m (λ z. omega arith), decimal_last m, length-append (leading (m / 10))) (omega (arith, leading_few k (m / 10) less))

-- a word has at most ten figures
pub decimal_few : (n : ℕ) → n < word_limit → length (decimal n) ≤ 10
decimal_few n h =
    let less : n / 10 < 10 ^ 9 = omega arith in
    rw (decimal_last n, length-append (leading (n / 10))) (omega (arith, leading_few 9 (n / 10) less))

-- the first figure is 0 in no number but 0
pub figures_some : (k n : ℕ) → n < k → 0 < length (last_figures k n)
unfolding last_figures
figures_some zero n h = absurd (omega arith)
figures_some (suc k) n h = go (ltb n 10)
  where
    go : (s : Bool) → 0 < length (cond s (figure n ∷ []) (last_figures k (n / 10) ++ figure (n % 10) ∷ []))
    go true = omega arith
    go false = rw length-append (omega arith)

first_figure : (d k n : ℕ) → n < k → 0 < n → get_or (last_figures k n) 0 d ≡ figure 0 → ⊥
unfolding last_figures
first_figure d zero n h l = absurd (omega arith)
first_figure d (suc k) n h l = go (first_figure d k (n / 10)) (ltb n 10) refl
  where
    go :
        (n / 10 < k → 0 < n / 10 → get_or (last_figures k (n / 10)) 0 d ≡ figure 0 → ⊥) → (s : Bool) → ltb n 10 ≡ s →
        get_or (last_figures (suc k) n) 0 d ≡ figure 0 → ⊥
    go ih true e = rw e (λ z. omega arith)
    go ih false e =
        let m : 10 ≤ n = ltb-false n 10 e in
        let some = figures_some k (n / 10) (omega arith) in
        rw (e, get_or-append (last_figures k (n / 10)) (figure (n % 10) ∷ []) d 0 some) (ih (omega arith) (omega arith))

pub decimal_leads : (d n : ℕ) → 0 < n → get_or (decimal n) 0 d ≡ figure 0 → ⊥
unfolding decimal
decimal_leads d n l = first_figure d (suc n) n (omega arith) l
