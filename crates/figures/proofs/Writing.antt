-- Figures counted, and written from the last to the first.
use Prim.Native.Nat.{ℕ, suc, ◌+◌, ◌-◌, ◌/◌, ◌%◌, ◌≤◌, ◌<◌}
use native.Mathlib.Omega.{arith}
use mathlib.Core.Path.{◌≡◌, refl, sym, ap, ◌∙◌}
use mathlib.Core.Logic.{◌≢◌}
use mathlib.Core.List.{List, [], ◌∷◌, ◌++◌, append_assoc, append-nil}
use borrow.Author.Tests.{le-leb, lt-leb}
use lib.ListN.{length, set, length-append}
use lib.Seq.{sets}
use Rattle.pair.specs.Rank.{word_limit}
use Rattle.pair.proofs.Lists.{set_sets}
use Rattle.figures.specs.Figures.{figure, decimal}
use Rattle.figures.specs.code.Reading.{leading, put_number}
use Rattle.figures.proofs.Figures.{decimal_last, decimal_few, leading_none, leading_some}

-- the figures behind those of rest are counted
pub record Counting (n count rest : ℕ) : Type 0 where
  pub all : length (decimal n) ≡ length (leading rest) + count
  pub few : length (decimal n) ≤ 10

one_more : (n : ℕ) → length (decimal n) ≡ length (leading (n / 10)) + 1
one_more n = ap length (decimal_last n) ∙ length-append (leading (n / 10)) (figure (n % 10) ∷ [])

pub counting_start : (n : ℕ) → n < word_limit → Counting n 1 (n / 10)
counting_start n h = record { all = one_more n; few = decimal_few n h }

pub counting_turn : {n count rest : ℕ} → Counting n count rest → rest ≢ 0 → Counting n (count + 1) (rest / 10)
counting_turn {n} {count} {rest} c h = record { all = c.all ∙ omega (arith, ap length (leading_some rest h), one_more rest); few = c.few }

pub counting_end : {n count rest : ℕ} → Counting n count rest → rest ≡ 0 → count ≡ length (decimal n)
counting_end {n} {count} {rest} c h = sym (c.all ∙ omega (arith, ap length (leading_none rest h)))

-- the figures from place end on are written; those before it are the figures of rest
pub record Writing (l : List ℕ) (at n : ℕ) (now : List ℕ) (end rest : ℕ) : Type 0 where
  pub first : List ℕ
  pub done : List ℕ
  pub all : decimal n ≡ first ++ done
  pub count : end ≡ at + length first
  pub of_rest : at < end → first ≡ decimal rest
  pub same : now ≡ sets l end done

pub writing_start : (l : List ℕ) (at n : ℕ) {end : ℕ} → end ≡ at + length (decimal n) → Writing l at n l end n
writing_start l at n e =
    record { first = decimal n; done = []; all = sym (append-nil (decimal n)); count = e; of_rest = λ h. refl; same = refl }

pub writing_turn :
    {l : List ℕ} {at n : ℕ} {now : List ℕ} {end rest b : ℕ} → Writing l at n now end rest → at < end → b ≡ figure (rest % 10) →
    Writing l at n (set now (end - 1) b) (end - 1) (rest / 10)
writing_turn {l} {at} {n} {now} {end} {rest} {b} w h e =
    let split : w.first ≡ leading (rest / 10) ++ b ∷ [] = w.of_rest h ∙ decimal_last rest ∙ ap (λ x. leading (rest / 10) ++ x ∷ []) (sym e) in
    let count : end - 1 ≡ at + length (leading (rest / 10)) = omega (arith, w.count, h, ap length split ∙ length-append (leading (rest / 10)) (b ∷ [])) in
    let s : end ≡ suc (end - 1) = omega (arith, h) in
    record {
      first = leading (rest / 10);
      done = b ∷ w.done;
      all = w.all ∙ ap (λ x. x ++ w.done) split ∙ append_assoc (leading (rest / 10)) (b ∷ []) w.done;
      count = count;
      of_rest = λ k. leading_some (rest / 10) (λ z. omega (arith, k, count, ap length (leading_none (rest / 10) z)));
      same = ap (λ m. set m (end - 1) b) (w.same ∙ ap (λ j. sets l j w.done) s) ∙ set_sets w.done l (suc (end - 1)) (end - 1) b (omega arith);
    }

pub writing_end :
    {l : List ℕ} {at n : ℕ} {now : List ℕ} {end rest : ℕ} → Writing l at n now end rest → end ≤ at → at + length (decimal n) ≤ length l →
    now ≡ put_number l at n
unfolding put_number
writing_end {l} {at} {n} {now} {end} {rest} w z h =
    let none : w.first ≡ [] = empty w.first (omega (arith, w.count, z)) in
    let start : end ≡ at = omega (arith, w.count, z) in
    let whole : decimal n ≡ w.done = w.all ∙ ap (λ x. x ++ w.done) none in
    rw (le-leb (at + length (decimal n)) (length l) h) (w.same ∙ ap (λ i. sets l i w.done) start ∙ ap (sets l at) (sym whole))
  where
    empty : (xs : List ℕ) → length xs ≡ 0 → xs ≡ []
    empty [] e = refl
    empty (x ∷ xs) e = absurd (omega arith)

-- without room nothing is written
pub no_room : (l : List ℕ) (at n : ℕ) → length l < at + length (decimal n) → l ≡ put_number l at n
unfolding put_number
no_room l at n h = rw (lt-leb (at + length (decimal n)) (length l) h)
