-- Figures read one after another.
use Prim.Native.Nat.{ℕ, suc, ◌+◌, ◌*◌, ◌-◌, ◌≤◌, ◌<◌}
use native.Mathlib.Omega.{arith}
use native.Mathlib.Numerals.{add-one}
use mathlib.Core.Path.{◌≡◌, refl, sym, ap, ◌∙◌}
use mathlib.Core.Bool.{Bool, true, false, cond, ◌&&◌, ◌||◌, not, and-false}
use mathlib.Core.List.{List, [], ◌∷◌}
use Rattle.std.specs.Option.{SomeIff}
use Rattle.std.proofs.Common.{Option, Some, None}
use borrow.Author.Tests.{lt-ltb, le-ltb, ltb-true, ltb-false, eqb-true, eqb-false}
use lib.ListN.{length, get_or, drop, drop_of_length-le}
use lib.Seq.{drop-cons}
use lib.Dec.{ltb, eqb}
use Rattle.pair.specs.Rank.{word_limit}
use Rattle.pair.proofs.Tests.{and_left, and_right}
use Rattle.figures.specs.Figures.{figure, is_figure, all_figures, worth, is_number}
use Rattle.figures.specs.code.Reading.{number_in, with_figure}

-- figures are worth no less than those before them
worth_grows : (bs : List ℕ) (v : ℕ) → v ≤ worth v bs
unfolding worth
worth_grows [] v = omega arith
worth_grows (b ∷ bs) v = omega (arith, worth_grows bs (10 * v + (b - figure 0)))

-- what is read behind figures that are worth v
unfoldable pub read_from : ℕ → List ℕ → Option ℕ
read_from v bs = cond (all_figures bs && ltb (worth v bs) word_limit) (Some (worth v bs)) None

-- and behind those and a figure more
unfoldable read_on : Option ℕ → List ℕ → Option ℕ
read_on (Some v) bs = read_from v bs
read_on None bs = None

read_next : (v b : ℕ) (bs : List ℕ) → read_from v (b ∷ bs) ≡ read_on (with_figure v b) bs
unfolding read_from read_on with_figure all_figures worth
read_next v b bs = go (is_figure b) (ltb w word_limit) refl
  where
    w : ℕ
    w = 10 * v + (b - figure 0)

    go : (t u : Bool) → ltb w word_limit ≡ u → cond (t && all_figures bs && ltb (worth w bs) word_limit) (Some (worth w bs)) None ≡ read_on (cond (t && u) (Some w) None) bs
    go false u k = refl
    go true true k = refl
    go true false k = let large : ltb (worth w bs) word_limit ≡ false = le-ltb (worth w bs) word_limit (omega (arith, ltb-false w word_limit k, worth_grows bs w)) in rw (large, and-false (all_figures bs))

-- a word holds a number with a figure more
figured_small : (v b : ℕ) {w : ℕ} → with_figure v b ≡ Some w → w < word_limit
unfolding with_figure
figured_small v b {w} e = go (is_figure b) (ltb (10 * v + (b - figure 0)) word_limit) refl e
  where
    go : (t u : Bool) → ltb (10 * v + (b - figure 0)) word_limit ≡ u → cond (t && u) (Some (10 * v + (b - figure 0))) None ≡ Some w → w < word_limit
    go true true k e = let x : 10 * v + (b - figure 0) ≡ w = cc in omega (arith, x, ltb-true (10 * v + (b - figure 0)) word_limit k)
    go true false k e = cc
    go false u k e = cc

-- what is read up to a byte is worth value; the rest decides
pub record Reading (bs : List ℕ) (value i : ℕ) : Type 0 where
  pub small : value < word_limit
  pub rest : number_in bs ≡ read_from value (drop i bs)

reading_next : {bs : List ℕ} {value i : ℕ} {o : Option ℕ} → Reading bs value i → i < length bs → o ≡ with_figure value (get_or bs i 0) → number_in bs ≡ read_on o (drop (i + 1) bs)
reading_next {bs} {value} {i} r h e = rw add-one (r.rest ∙ rw (drop-cons bs i 0 h) (read_next value (get_or bs i 0) (drop (suc i) bs)) ∙ ap (λ o. read_on o (drop (suc i) bs)) (sym e))

pub reading_turn : {bs : List ℕ} {value i next : ℕ} → Reading bs value i → i < length bs → Some next ≡ with_figure value (get_or bs i 0) → Reading bs next (i + 1)
unfolding read_on
reading_turn {bs} {value} {i} r h e = record { small = figured_small value (get_or bs i 0) (sym e); rest = reading_next r h e }

pub reading_stop : {bs : List ℕ} {value i : ℕ} → Reading bs value i → i < length bs → None ≡ with_figure value (get_or bs i 0) → None ≡ number_in bs
unfolding read_on
reading_stop r h e = sym (reading_next r h e)

pub reading_end : {bs : List ℕ} {value i : ℕ} → Reading bs value i → length bs ≤ i → Some value ≡ number_in bs
unfolding read_from all_figures worth
reading_end {bs} {value} r h = sym (r.rest ∙ rw (drop_of_length-le bs h, lt-ltb value word_limit r.small))

-- the number with a figure more: none where no word holds it, or where the byte is no figure
pub figured : (v b : ℕ) {w : ℕ} {o : Option ℕ} → is_figure b ≡ true → w ≡ 10 * v + (b - figure 0) → SomeIff o (w < word_limit) w → o ≡ with_figure v b
unfolding with_figure
figured v b {w} {o = None} e k h = rw (e, le-ltb (10 * v + (b - figure 0)) word_limit (omega (arith, k, h)))
figured v b {w} {o = Some x} e k h = rw (e, lt-ltb (10 * v + (b - figure 0)) word_limit (omega (arith, k, h.0))) (ap Some (h.1 ∙ k))

pub figured_large : (v b : ℕ) → word_limit ≤ 10 * v + (b - figure 0) → with_figure v b ≡ None
unfolding with_figure
figured_large v b h = rw (le-ltb (10 * v + (b - figure 0)) word_limit h, and-false (is_figure b))

pub figured_other : (v b : ℕ) → is_figure b ≡ false → with_figure v b ≡ None
unfolding with_figure
figured_other v b e = rw e

-- with a first byte that may begin a number the figures decide
pub reading_start : (bs : List ℕ) → eqb (length bs) 0 ≡ false → (not (eqb (length bs) 1) && eqb (get_or bs 0 0) (figure 0)) ≡ false → Reading bs 0 0
unfolding number_in is_number read_from
reading_start bs h e =
    record {
      small = omega arith;
      rest = rw (lt-ltb 0 (length bs) (omega (arith, eqb-false (length bs) 0 h)), turned (eqb (length bs) 1) (eqb (get_or bs 0 0) (figure 0)) e);
    }
  where
    turned : (a b : Bool) → (not a && b) ≡ false → (a || not b) ≡ true
    turned true b e = refl
    turned false true e = sym e
    turned false false e = refl

-- no bytes, or a zero before others, show no number
pub none_read : (bs : List ℕ) → eqb (length bs) 0 ≡ true → None ≡ number_in bs
unfolding number_in is_number
none_read bs e = rw (eqb-true (length bs) 0 e)

pub zero_read : (bs : List ℕ) → (not (eqb (length bs) 1) && eqb (get_or bs 0 0) (figure 0)) ≡ true → None ≡ number_in bs
unfolding number_in is_number
zero_read bs e =
    rw (turned (eqb (length bs) 1) (eqb (get_or bs 0 0) (figure 0)) e) (fails (ltb 0 (length bs)) (all_figures bs) (ltb (worth 0 bs) word_limit) (worth 0 bs))
  where
    turned : (a b : Bool) → (not a && b) ≡ true → (a || not b) ≡ false
    turned true b e = sym e
    turned false true e = refl
    turned false false e = sym e

    fails : (a b c : Bool) (n : ℕ) → None ≡ cond (a && false && b && c) (Some n) None
    fails true b c n = refl
    fails false b c n = refl

-- a number is figures, and a word holds it
pub number_figures : (bs : List ℕ) → is_number bs ≡ true → all_figures bs ≡ true
unfolding is_number
number_figures bs e =
    let first = eqb (length bs) 1 || not (eqb (get_or bs 0 0) (figure 0)) in
    and_right (ltb 0 (length bs) && first) (all_figures bs) (and_left (ltb 0 (length bs) && first && all_figures bs) (ltb (worth 0 bs) word_limit) e)

pub number_small : (bs : List ℕ) → is_number bs ≡ true → worth 0 bs < word_limit
unfolding is_number
number_small bs e =
    let first = eqb (length bs) 1 || not (eqb (get_or bs 0 0) (figure 0)) in
    ltb-true (worth 0 bs) word_limit (and_right (ltb 0 (length bs) && first && all_figures bs) (ltb (worth 0 bs) word_limit) e)

-- what is read tells whether bytes show a number, and which
pub read_number : (bs : List ℕ) {n : ℕ} → number_in bs ≡ Some n → (is_number bs ≡ true) × (n ≡ worth 0 bs)
unfolding number_in
read_number bs {n} e = go (is_number bs) e
  where
    go : (t : Bool) → cond t (Some (worth 0 bs)) None ≡ Some n → (t ≡ true) × (n ≡ worth 0 bs)
    go true e = (refl, cc)
    go false e = cc

pub read_no_number : (bs : List ℕ) → number_in bs ≡ None → is_number bs ≡ false
unfolding number_in
read_no_number bs e = go (is_number bs) e
  where
    go : (t : Bool) → cond t (Some (worth 0 bs)) None ≡ None → t ≡ false
    go true e = cc
    go false e = refl
