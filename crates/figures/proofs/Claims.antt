-- The claims on figures.
use Prim.Native.Nat.{ℕ, zero, suc, ◌+◌, ◌*◌, ◌-◌, ◌/◌, ◌%◌, ◌≤◌, ◌<◌}
use native.Mathlib.Omega.{arith}
use mathlib.Core.Path.{◌≡◌, refl, sym, ap, ◌∙◌}
use mathlib.Core.Logic.{inr}
use mathlib.Core.Bool.{Bool, true, false, ◌&&◌, ◌||◌, not}
use mathlib.Core.List.{List, [], ◌∷◌, ◌++◌, append_assoc, append-nil}
use borrow.Author.Tests.{lt-ltb, le-leb, leb-true, ltb-true, ltb-false, eqb-false, ne_eqb}
use lib.ListN.{length, get_or}
use lib.Dec.{ltb, leb, eqb}
use Rattle.pair.specs.Rank.{word_limit}
use Rattle.pair.proofs.Tests.{and_left, and_right, and_both, or_intro}
use Rattle.figures.specs.Figures.{figure, last_figures, decimal, is_figure, all_figures, worth, is_number}
use Rattle.figures.specs.Claims.{NumbersRead, NumbersOnly}
use Rattle.figures.proofs.Figures.{decimal_last, decimal_leads, figures_some, leading_some}

figure_read : (d : ℕ) → d < 10 → is_figure (figure d) ≡ true
unfolding is_figure
figure_read d h = rw (le-leb 48 (48 + d) (let a : 48 ≤ 48 + d = omega arith in a), le-leb (48 + d) 57 (let b : 48 + d ≤ 57 = omega arith in b))

figures_last : (bs : List ℕ) (b : ℕ) → all_figures bs ≡ true → is_figure b ≡ true → all_figures (bs ++ b ∷ []) ≡ true
unfolding all_figures
figures_last [] b e f = rw f
figures_last (x ∷ bs) b e f =
    and_both (is_figure x) (all_figures (bs ++ b ∷ [])) (and_left (is_figure x) (all_figures bs) e) (figures_last bs b (and_right (is_figure x) (all_figures bs) e) f)

worth_last : (bs : List ℕ) (v d : ℕ) → worth v (bs ++ figure d ∷ []) ≡ 10 * worth v bs + d
unfolding worth
worth_last [] v d = omega arith
worth_last (b ∷ bs) v d = worth_last bs (10 * v + (b - figure 0)) d

one_figure : (m : ℕ) → m < 10 → (all_figures (figure m ∷ []) ≡ true) × (worth 0 (figure m ∷ []) ≡ m)
unfolding all_figures worth
one_figure m l = (figures_last [] (figure m) refl (figure_read m l), worth_last [] 0 m ∙ omega arith)

figures_read : (k n : ℕ) → n < k → (all_figures (last_figures k n) ≡ true) × (worth 0 (last_figures k n) ≡ n)
unfolding last_figures
figures_read zero n h = absurd (omega arith)
figures_read (suc k) n h = go (figures_read k (n / 10)) (ltb n 10) refl
  where
    go :
        (n / 10 < k → (all_figures (last_figures k (n / 10)) ≡ true) × (worth 0 (last_figures k (n / 10)) ≡ n / 10)) → (s : Bool) → ltb n 10 ≡ s →
        (all_figures (last_figures (suc k) n) ≡ true) × (worth 0 (last_figures (suc k) n) ≡ n)
    go ih true e = rw e (one_figure n (ltb-true n 10 e))
    go ih false e =
        let l : 10 ≤ n = ltb-false n 10 e in
        let r = ih (omega arith) in
        rw e (figures_last (last_figures k (n / 10)) (figure (n % 10)) r.0 (figure_read (n % 10) (omega arith)), worth_last (last_figures k (n / 10)) 0 (n % 10) ∙ omega (arith, r.1))

decimal_read : (n : ℕ) → (all_figures (decimal n) ≡ true) × (worth 0 (decimal n) ≡ n)
unfolding decimal
decimal_read n = figures_read (suc n) n (omega arith)

decimal_some : (n : ℕ) → 0 < length (decimal n)
unfolding decimal
decimal_some n = figures_some (suc n) n (omega arith)

decimal_figure : (d : ℕ) → d < 10 → decimal d ≡ figure d ∷ []
unfolding decimal last_figures
decimal_figure d h = rw (lt-ltb d 10 h)

-- a number of one figure, or one that does not begin with 0
begins : (n : ℕ) → (eqb (length (decimal n)) 1 || not (eqb (get_or (decimal n) 0 0) (figure 0))) ≡ true
begins zero = rw (decimal_figure 0 (omega arith))
begins (suc n) = or_intro (eqb (length (decimal (suc n))) 1) (not (eqb (get_or (decimal (suc n)) 0 0) (figure 0))) (inr (rw (ne_eqb (get_or (decimal (suc n)) 0 0) (figure 0) (decimal_leads 0 (suc n) (omega arith)))))

pub numbers_read : NumbersRead
unfolding NumbersRead is_number
numbers_read n h =
    let r = decimal_read n in
    let some = decimal_some n in
    (rw (lt-ltb 0 (length (decimal n)) some, begins n, r.0, r.1, lt-ltb n word_limit h), r.1)

figure_byte : (b : ℕ) → is_figure b ≡ true → (b ≡ figure (b - figure 0)) × (b - figure 0 < 10)
unfolding is_figure
figure_byte b e =
    let l = leb-true 48 b (and_left (leb 48 b) (leb b 57) e) in
    let h = leb-true b 57 (and_right (leb 48 b) (leb b 57) e) in
    (omega (arith, l), omega (arith, l, h))

-- a figure more behind those of a number
decimal_one : (v d : ℕ) → 0 < v → d < 10 → decimal (10 * v + d) ≡ decimal v ++ figure d ∷ []
decimal_one v d h l =
    let q : (10 * v + d) / 10 ≡ v = omega arith in
    let r : (10 * v + d) % 10 ≡ d = omega arith in
    decimal_last (10 * v + d) ∙ rw (q, r, leading_some v (λ z. omega arith))

decimal_more : (bs : List ℕ) (v : ℕ) → 0 < v → all_figures bs ≡ true → decimal (worth v bs) ≡ decimal v ++ bs
unfolding all_figures worth
decimal_more [] v h e = sym (append-nil (decimal v))
decimal_more (b ∷ bs) v h e =
    let f = figure_byte b (and_left (is_figure b) (all_figures bs) e) in
    decimal_more bs (10 * v + (b - figure 0)) (omega arith) (and_right (is_figure b) (all_figures bs) e)
    ∙ ap (λ x. x ++ bs) (decimal_one v (b - figure 0) h f.1) ∙ append_assoc (decimal v) (figure (b - figure 0) ∷ []) bs
    ∙ ap (λ x. decimal v ++ x ∷ bs) (sym f.0)

alone : (b : ℕ) → (b ≡ figure (b - figure 0)) × (b - figure 0 < 10) → b ∷ [] ≡ decimal (b - figure 0)
alone b f = sym (decimal_figure (b - figure 0) f.1 ∙ ap (λ x. x ∷ []) (sym f.0))

-- figures that begin with another than 0, or 0 alone
only : (bs : List ℕ) → 0 < length bs → (eqb (length bs) 1 || not (eqb (get_or bs 0 0) (figure 0))) ≡ true → all_figures bs ≡ true → bs ≡ decimal (worth 0 bs)
unfolding all_figures worth
only [] h o e = absurd (omega arith)
only (b ∷ []) h o e =
    let f = figure_byte b (and_left (is_figure b) (all_figures []) e) in
    let v : 10 * 0 + (b - figure 0) ≡ b - figure 0 = omega arith in
    rw v (alone b f)
only (b ∷ x ∷ bs) h o e =
    let f = figure_byte b (and_left (is_figure b) (all_figures (x ∷ bs)) e) in
    let v : 10 * 0 + (b - figure 0) ≡ b - figure 0 = omega arith in
    let long : eqb (suc (suc (length bs))) 1 ≡ false = ne_eqb (suc (suc (length bs))) 1 (λ z. omega arith) in
    let more : 0 < b - figure 0 = omega (arith, f.0, eqb-false b 48 (not_true (eqb b 48) (rw long at o))) in
    rw v (ap (λ l. l ++ x ∷ bs) (alone b f) ∙ sym (decimal_more (x ∷ bs) (b - figure 0) more (and_right (is_figure b) (all_figures (x ∷ bs)) e)))
  where
    not_true : (t : Bool) → not t ≡ true → t ≡ false
    not_true true e = sym e
    not_true false e = refl

pub numbers_only : NumbersOnly
unfolding NumbersOnly is_number
numbers_only bs e =
    let some = ltb 0 (length bs) in
    let first = eqb (length bs) 1 || not (eqb (get_or bs 0 0) (figure 0)) in
    let small = ltb (worth 0 bs) word_limit in
    let three = and_left (some && first && all_figures bs) small e in
    let two = and_left (some && first) (all_figures bs) three in (
      only bs (ltb-true 0 (length bs) (and_left some first two)) (and_right some first two) (and_right (some && first) (all_figures bs) three),
      ltb-true (worth 0 bs) word_limit (and_right (some && first && all_figures bs) small e),
    )
