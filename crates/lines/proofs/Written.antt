-- Lines written out are read as their records, and no others are.
use Prim.Native.Nat.{ℕ, suc, ◌+◌, ◌-◌, ◌<◌}
use native.Mathlib.Omega.{arith}
use mathlib.Core.Path.{◌≡◌, refl, sym, ap, subst, ◌∙◌}
use mathlib.Core.Logic.{◌≢◌, ◌⊎◌, inl, inr}
use mathlib.Core.Bool.{Bool, true, false, cond, ◌&&◌, and-false}
use mathlib.Core.List.{List, [], ◌∷◌, ◌++◌, append_assoc}
use borrow.Author.Tests.{leb-true, eqb-true}
use lib.ListN.{length, take, drop, get_or, length-append}
use lib.Seq.{take_all, take-append_seam, drop-append-add}
use lib.Dec.{leb, eqb}
use Rattle.pair.specs.Tests.{same}
use Rattle.pair.proofs.Tests.{and_left, and_right, contradiction}
use Rattle.figures.specs.Figures.{decimal, is_figure, all_figures, worth, is_number}
use Rattle.figures.specs.Claims.{NumbersRead, NumbersOnly}
use Rattle.figures.proofs.Reading.{number_figures}
use Rattle.figures.proofs.Claims.{numbers_read, numbers_only}
use Rattle.lines.specs.Lines.{tab, letter_a, letter_r, longer, fields, record_of, line_record}
use Rattle.lines.specs.Claims.{addition_line, removal_line, LinesRead, LinesOnly}
use Rattle.lines.proofs.Lines.{fields_some, addition_fields, removal_fields, line_letter}
use Rattle.lines.proofs.Splitting.{before, before_mark, before_pass, fields_next}

-- figures before a tab are the first field
before_figures : (xs ys : List ℕ) → all_figures xs ≡ true → before tab (xs ++ tab ∷ ys) ≡ length xs
unfolding all_figures is_figure
before_figures [] ys e = before_mark tab tab ys refl
before_figures (x ∷ xs) ys e =
    let f = and_left (leb 48 x && leb x 57) (all_figures xs) e in
    let h = leb-true 48 x (and_left (leb 48 x) (leb x 57) f) in
    before_pass tab x (xs ++ tab ∷ ys) (λ t. omega (arith, h, t)) ∙ ap suc (before_figures xs ys (and_right (leb 48 x && leb x 57) (all_figures xs) e))

fields_figures : (xs ys : List ℕ) → is_number xs ≡ true → fields (xs ++ tab ∷ ys) ≡ xs ∷ fields ys
fields_figures xs ys e =
    let all = xs ++ tab ∷ ys in
    let b : before tab all ≡ length xs = before_figures xs ys (number_figures xs e) in
    let h : before tab all < length all = omega (arith, b, length-append xs (tab ∷ ys)) in
    let s : suc (length xs) ≡ length xs + 1 = omega arith in
    fields_next all h ∙ rw b (ap (λ l. l ∷ fields (drop (suc (length xs)) all)) (take-append_seam xs (tab ∷ ys)) ∙ rw s (ap (λ l. xs ∷ fields l) (drop-append-add xs (tab ∷ ys) 1)))

-- a letter, a tab, and the rest
letter_fields : (c : ℕ) (rest : List ℕ) → (c ≡ tab → ⊥) → line_record (c ∷ tab ∷ rest) ≡ record_of ((c ∷ []) ∷ fields rest)
letter_fields c rest n =
    let s : take (suc (suc (length rest)) - 2) rest ≡ rest = take_all (suc (suc (length rest)) - 2) rest (omega arith) in
    line_letter c (c ∷ tab ∷ rest) (omega arith) refl refl n ∙ ap (λ l. record_of ((c ∷ []) ∷ fields l)) s

pub lines_read : LinesRead
unfolding LinesRead addition_line removal_line NumbersRead
lines_read = (
  λ t p ht hp.
      let a = numbers_read t ht in
      let b = numbers_read p hp in
      letter_fields letter_a (decimal t ++ tab ∷ decimal p) (λ z. omega (arith, z))
      ∙ ap (λ fs. record_of ((letter_a ∷ []) ∷ fs)) (fields_figures (decimal t) (decimal p) a.0)
      ∙ addition_fields (decimal t) (decimal p) ∙ rw (a.0, b.0, a.1, b.1),
  λ t a z ht ha hz.
      let k = numbers_read t ht in
      let m = numbers_read a ha in
      let n = numbers_read z hz in
      letter_fields letter_r (decimal t ++ tab ∷ decimal a ++ tab ∷ decimal z) (λ z. omega (arith, z))
      ∙ ap (λ l. record_of ((letter_r ∷ []) ∷ fields l)) (append_assoc (decimal t) (tab ∷ decimal a) (tab ∷ decimal z))
      ∙ ap (λ fs. record_of ((letter_r ∷ []) ∷ fs)) (fields_figures (decimal t) (decimal a ++ tab ∷ decimal z) k.0 ∙ ap (λ fs. decimal t ∷ fs) (fields_figures (decimal a) (decimal z) m.0))
      ∙ removal_fields (decimal t) (decimal a) (decimal z) ∙ rw (k.0, m.0, n.0, k.1, m.1, n.1),
)

-- fields with tabs between them are the line again
unfoldable parted : List (List ℕ) → List ℕ
parted [] = []
parted (f ∷ []) = f
parted (f ∷ g ∷ fs) = f ++ tab ∷ parted (g ∷ fs)

parted_tab : (fs : List (List ℕ)) → 0 < length fs → parted ([] ∷ fs) ≡ tab ∷ parted fs
unfolding parted
parted_tab [] h = absurd (omega arith)
parted_tab (f ∷ fs) h = refl

parted_longer : (b : ℕ) (fs : List (List ℕ)) → 0 < length fs → parted (longer b fs) ≡ b ∷ parted fs
unfolding parted longer
parted_longer b [] h = absurd (omega arith)
parted_longer b (f ∷ []) h = refl
parted_longer b (f ∷ g ∷ fs) h = refl

fields_parted : (l : List ℕ) → parted (fields l) ≡ l
unfolding parted fields
fields_parted [] = refl
fields_parted (b ∷ l) = go (fields_parted l) (eqb b tab) refl
  where
    go : parted (fields l) ≡ l → (t : Bool) → eqb b tab ≡ t → parted (cond t ([] ∷ fields l) (longer b (fields l))) ≡ b ∷ l
    go ih true e = parted_tab (fields l) (fields_some l) ∙ rw (eqb-true b tab e) (ap (λ x. tab ∷ x) ih)
    go ih false e = parted_longer b (fields l) (fields_some l) ∙ ap (λ x. b ∷ x) ih

-- the letter of a first field
same_letter : (k : List ℕ) (c : ℕ) → same k (c ∷ []) ≡ true → k ≡ c ∷ []
unfolding same
same_letter [] c e = contradiction false e refl
same_letter (x ∷ []) c e = ap (λ y. y ∷ []) (eqb-true x c (and_left (eqb x c) true e))
same_letter (x ∷ y ∷ k) c e = contradiction false (sym (and-false (eqb x c)) ∙ e) refl

-- three or four fields that are a record are written as its line
addition_only :
    (k t p : List ℕ) → (same k (letter_a ∷ []) && is_number t && is_number p) ≡ true → parted (k ∷ t ∷ p ∷ []) ≡ addition_line (worth 0 t) (worth 0 p)
unfolding parted addition_line NumbersOnly
addition_only k t p e =
    let two = and_left (same k (letter_a ∷ []) && is_number t) (is_number p) e in
    let letter = same_letter k letter_a (and_left (same k (letter_a ∷ [])) (is_number t) two) in
    let first = (numbers_only t (and_right (same k (letter_a ∷ [])) (is_number t) two)).0 in
    let second = (numbers_only p (and_right (same k (letter_a ∷ []) && is_number t) (is_number p) e)).0 in
    ap (λ x. x ++ tab ∷ (t ++ tab ∷ p)) letter
    ∙ ap (λ x. letter_a ∷ tab ∷ (x ++ tab ∷ p)) first ∙ ap (λ x. letter_a ∷ tab ∷ (decimal (worth 0 t) ++ tab ∷ x)) second

removal_only :
    (k t a z : List ℕ) → (same k (letter_r ∷ []) && is_number t && is_number a && is_number z) ≡ true →
    parted (k ∷ t ∷ a ∷ z ∷ []) ≡ removal_line (worth 0 t) (worth 0 a) (worth 0 z)
unfolding parted removal_line NumbersOnly
removal_only k t a z e =
    let c = same k (letter_r ∷ []) in
    let three = and_left (c && is_number t && is_number a) (is_number z) e in
    let two = and_left (c && is_number t) (is_number a) three in
    let letter = same_letter k letter_r (and_left c (is_number t) two) in
    let first = (numbers_only t (and_right c (is_number t) two)).0 in
    let second = (numbers_only a (and_right (c && is_number t) (is_number a) three)).0 in
    let third = (numbers_only z (and_right (c && is_number t && is_number a) (is_number z) e)).0 in
    ap (λ x. x ++ tab ∷ (t ++ tab ∷ (a ++ tab ∷ z))) letter
    ∙ ap (λ x. letter_r ∷ tab ∷ (x ++ tab ∷ (a ++ tab ∷ z))) first
    ∙ ap (λ x. letter_r ∷ tab ∷ (decimal (worth 0 t) ++ tab ∷ (x ++ tab ∷ z))) second
    ∙ ap (λ x. letter_r ∷ tab ∷ (decimal (worth 0 t) ++ tab ∷ (decimal (worth 0 a) ++ tab ∷ x))) third
    ∙ ap (λ x. letter_r ∷ tab ∷ x) (sym (append_assoc (decimal (worth 0 t)) (tab ∷ decimal (worth 0 a)) (tab ∷ decimal (worth 0 z))))

-- the line of a record's words
abbrev Written : List ℕ → List ℕ → Type 0
Written l r = (l ≡ addition_line (get_or r 1 0) (get_or r 2 0)) ⊎ (l ≡ removal_line (get_or r 1 0) (get_or r 2 0) (get_or r 3 0))

record_only : (fs : List (List ℕ)) → length (record_of fs) ≢ 0 → Written (parted fs) (record_of fs)
unfolding record_of
record_only [] n = absurd (n refl)
record_only (k ∷ []) n = absurd (n refl)
record_only (k ∷ t ∷ []) n = absurd (n refl)
record_only (k ∷ t ∷ p ∷ []) n = go (same k (letter_a ∷ []) && is_number t && is_number p) refl n
  where
    go :
        (s : Bool) → (same k (letter_a ∷ []) && is_number t && is_number p) ≡ s → length (cond s (1 ∷ worth 0 t ∷ worth 0 p ∷ worth 0 p ∷ []) []) ≢ 0 →
        Written (parted (k ∷ t ∷ p ∷ [])) (cond s (1 ∷ worth 0 t ∷ worth 0 p ∷ worth 0 p ∷ []) [])
    go true e n = inl (addition_only k t p e)
    go false e n = absurd (n refl)
record_only (k ∷ t ∷ a ∷ z ∷ []) n = go (same k (letter_r ∷ []) && is_number t && is_number a && is_number z) refl n
  where
    go :
        (s : Bool) → (same k (letter_r ∷ []) && is_number t && is_number a && is_number z) ≡ s →
        length (cond s (2 ∷ worth 0 t ∷ worth 0 a ∷ worth 0 z ∷ []) []) ≢ 0 →
        Written (parted (k ∷ t ∷ a ∷ z ∷ [])) (cond s (2 ∷ worth 0 t ∷ worth 0 a ∷ worth 0 z ∷ []) [])
    go true e n = inr (removal_only k t a z e)
    go false e n = absurd (n refl)
record_only (k ∷ t ∷ a ∷ z ∷ f ∷ fs) n = absurd (n refl)

pub lines_only : LinesOnly
unfolding LinesOnly line_record
lines_only l n = subst (λ x. Written x (record_of (fields l))) (fields_parted l) (record_only (fields l) n)
