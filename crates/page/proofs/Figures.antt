-- Columns: that they hold a number's figures, what they read as.
use Prim.Native.Nat.{ℕ, zero, suc, ◌+◌, ◌*◌, ◌-◌, ◌/◌, ◌%◌, ◌≤◌, ◌<◌}
use native.Mathlib.Omega.{arith}
use mathlib.Core.Path.{◌≡◌, refl, sym, ap, ◌∙◌}
use mathlib.Core.Bool.{Bool, true, false, cond, not, ◌||◌}
use mathlib.Core.List.{List, [], ◌∷◌, ◌++◌, append_assoc}
use borrow.Author.Tests.{ltb-false, ne_eqb}
use lib.ListN.{length, replicate, length-append, length-replicate}
use lib.Dec.{ltb, eqb}
use Rattle.pair.specs.Rank.{word_limit}
use Rattle.pair.specs.Rising.{keep, any}
use Rattle.pair.proofs.Keep.{keep_append}
use Rattle.figures.specs.Figures.{figure, last_figures, decimal}
use Rattle.figures.specs.code.Reading.{leading}
use Rattle.figures.proofs.Figures.{decimal_last, decimal_few}
use Rattle.page.specs.Figures.{blank, column_width, column}
use Rattle.page.specs.Page.{line_feed}
use Rattle.page.specs.ReadBack.{number_from, number_in, shown, line_feeds_in}

pub column_length : (n : ℕ) → n < word_limit → length (column n) ≡ column_width
unfolding column
column_length n h = rw (length-append, length-replicate) (omega (arith, decimal_few n h))

-- reading goes on behind what was read
number_append : (xs ys : List ℕ) (v : ℕ) → number_from v (xs ++ ys) ≡ number_from (number_from v xs) ys
unfolding number_from
number_append [] ys v = refl
number_append (x ∷ xs) ys v = number_append xs ys (cond (eqb x blank) v (10 * v + (x - 48)))

number_blanks : (k v : ℕ) → number_from v (replicate k blank) ≡ v
unfolding number_from
number_blanks zero v = refl
number_blanks (suc k) v = number_blanks k v

number_figure : (v d : ℕ) → number_from v (figure d ∷ []) ≡ 10 * v + d
unfolding number_from
number_figure v d = let e : 48 + d - 48 ≡ d = omega arith in rw (ne_eqb (48 + d) blank (λ z. omega arith), e)

number_figures : (k n : ℕ) → n < k → number_from 0 (last_figures k n) ≡ n
unfolding last_figures
number_figures zero n h = absurd (omega arith)
number_figures (suc k) n h = go (number_figures k (n / 10)) (ltb n 10) refl
  where
    go : (n / 10 < k → number_from 0 (last_figures k (n / 10)) ≡ n / 10) → (s : Bool) → ltb n 10 ≡ s → number_from 0 (last_figures (suc k) n) ≡ n
    go ih true e = rw (e, number_figure 0 n) (omega arith)
    go ih false e =
        let l : 10 ≤ n = ltb-false n 10 e in
        rw (e, number_append (last_figures k (n / 10)), ih (omega arith), number_figure (n / 10) (n % 10)) (omega arith)

-- a column reads as its number
pub column_number : (n : ℕ) → number_in (column n) ≡ n
unfolding number_in column decimal
column_number n = rw (number_append (replicate (10 - length (decimal n)) blank), number_blanks (10 - length (decimal n)) 0) (number_figures (suc n) n (omega arith))

-- and shows it, since the last byte is no blank
any_last : (f : ℕ → Bool) (xs : List ℕ) (y : ℕ) → f y ≡ true → any f (xs ++ y ∷ []) ≡ true
unfolding any
any_last f [] y e = rw e
any_last f (x ∷ xs) y e = rw (any_last f xs y e) (or_true (f x))
  where
    or_true : (b : Bool) → (b || true) ≡ true
    or_true true = refl
    or_true false = refl

column_some : (n : ℕ) → any (λ b. not (eqb b blank)) (column n) ≡ true
unfolding column
column_some n =
    let before = replicate (column_width - length (decimal n)) blank ++ leading (n / 10) in
    let e : column n ≡ before ++ figure (n % 10) ∷ [] =
    ap (λ l. replicate (column_width - length (decimal n)) blank ++ l) (decimal_last n)
    ∙ sym (append_assoc (replicate (column_width - length (decimal n)) blank) (leading (n / 10)) (figure (n % 10) ∷ [])) in
    rw e (any_last (λ b. not (eqb b blank)) before (figure (n % 10)) (rw (ne_eqb (figure (n % 10)) blank (λ z. omega arith))))

pub column_shown : (n : ℕ) → shown (blank ∷ column n) ≡ n ∷ []
unfolding shown number_in number_from any
column_shown n = let e : number_from 0 (column n) ≡ n = column_number n in rw (column_some n, e)

-- no line feed is among figures and blanks
pub feeds_append : (xs ys : List ℕ) → line_feeds_in (xs ++ ys) ≡ line_feeds_in xs + line_feeds_in ys
unfolding line_feeds_in
feeds_append xs ys = rw (keep_append (eqb line_feed) xs ys, length-append)

pub feeds_blanks : (k : ℕ) → line_feeds_in (replicate k blank) ≡ 0
unfolding line_feeds_in keep
feeds_blanks zero = refl
feeds_blanks (suc k) = feeds_blanks k

feeds_figure : (d : ℕ) → line_feeds_in (figure d ∷ []) ≡ 0
unfolding line_feeds_in keep
feeds_figure d = rw (ne_eqb line_feed (figure d) (λ z. omega arith))

feeds_figures : (k n : ℕ) → line_feeds_in (last_figures k n) ≡ 0
unfolding last_figures
feeds_figures zero n = feeds_blanks 0
feeds_figures (suc k) n = go (feeds_figures k (n / 10)) (ltb n 10) refl
  where
    go : line_feeds_in (last_figures k (n / 10)) ≡ 0 → (s : Bool) → ltb n 10 ≡ s → line_feeds_in (last_figures (suc k) n) ≡ 0
    go ih true e = rw (e, feeds_figure n)
    go ih false e = rw (e, feeds_append (last_figures k (n / 10)), ih, feeds_figure (n % 10))

pub feeds_column : (n : ℕ) → line_feeds_in (column n) ≡ 0
unfolding column decimal
feeds_column n = rw (feeds_append (replicate (10 - length (decimal n)) blank), feeds_blanks (10 - length (decimal n)), feeds_figures (suc n) n)
