-- A line's record.
use Prim.Native.Nat.{ℕ, suc, ◌-◌, ◌≤◌, ◌<◌}
use native.Mathlib.Omega.{arith}
use mathlib.Core.Path.{◌≡◌, refl, sym, ap, ◌∙◌}
use mathlib.Core.Logic.{◌≢◌, ◌⊎◌, inl, inr, ⊎_elim}
use mathlib.Core.Bool.{Bool, true, false, cond, ◌&&◌, and-false}
use mathlib.Core.List.{List, [], ◌∷◌}
use borrow.Author.Tests.{leb-true, ltb-true, ltb-false, eqb-true, eqb-false, ne_eqb}
use lib.ListN.{length, take, drop, get_or}
use lib.Seq.{take_all, length-take-le}
use lib.Dec.{ltb, leb, eqb}
use Rattle.pair.specs.Tests.{same}
use Rattle.pair.proofs.Tests.{and_left, and_right}
use Rattle.figures.specs.Figures.{is_figure, all_figures, worth, is_number}
use Rattle.figures.proofs.Reading.{number_figures}
use Rattle.lines.specs.Lines.{tab, letter_a, letter_r, fields, record_of, line_record}
use Rattle.lines.proofs.Splitting.{before, before_most, before_mark, before_pass, before_none, fields_next, fields_one}

-- no tab is among figures
figures_no_tab : (bs : List ℕ) → all_figures bs ≡ true → before tab bs ≡ length bs
unfolding all_figures is_figure
figures_no_tab [] e = before_none tab
figures_no_tab (b ∷ bs) e =
    let f = and_left (leb 48 b && leb b 57) (all_figures bs) e in
    let h = leb-true 48 b (and_left (leb 48 b) (leb b 57) f) in
    before_pass tab b bs (λ t. omega (arith, h, t)) ∙ ap suc (figures_no_tab bs (and_right (leb 48 b && leb b 57) (all_figures bs) e))

-- so bytes with a tab show no number
pub tab_no_number : (bs : List ℕ) → before tab bs < length bs → is_number bs ≡ false
tab_no_number bs h = go (is_number bs) refl
  where
    go : (t : Bool) → is_number bs ≡ t → t ≡ false
    go true e = absurd (omega (arith, h, figures_no_tab bs (number_figures bs e)))
    go false e = refl

-- a line is one field, or has a tab
some_field : (bs : List ℕ) → (fields bs ≡ bs ∷ []) ⊎ (before tab bs < length bs)
some_field bs = go (ltb (before tab bs) (length bs)) refl
  where
    go : (t : Bool) → ltb (before tab bs) (length bs) ≡ t → (fields bs ≡ bs ∷ []) ⊎ (before tab bs < length bs)
    go true e = inr (ltb-true (before tab bs) (length bs) e)
    go false e = inl (fields_one bs (omega (arith, ltb-false (before tab bs) (length bs) e, before_most tab bs)))

pub fields_some : (bs : List ℕ) → 0 < length (fields bs)
fields_some bs = ⊎_elim (λ e. rw e (omega arith)) (λ h. rw (fields_next bs h) (omega arith)) (some_field bs)

-- more fields than a record has
pub addition_more : (t x : List ℕ) (fs : List (List ℕ)) → 0 < length fs → record_of ((letter_a ∷ []) ∷ t ∷ x ∷ fs) ≡ []
unfolding record_of same
addition_more t x [] h = absurd (omega arith)
addition_more t x (z ∷ []) h = refl
addition_more t x (z ∷ f ∷ fs) h = refl

removal_more : (t a x : List ℕ) (fs : List (List ℕ)) → 0 < length fs → record_of ((letter_r ∷ []) ∷ t ∷ a ∷ x ∷ fs) ≡ []
unfolding record_of
removal_more t a x [] h = absurd (omega arith)
removal_more t a x (f ∷ fs) h = refl

-- the record of A, a term, and what stands behind its tab
pub addition_fields :
    (t r : List ℕ) →
    record_of ((letter_a ∷ []) ∷ t ∷ fields r) ≡ cond (is_number t && is_number r) (1 ∷ worth 0 t ∷ worth 0 r ∷ worth 0 r ∷ []) []
unfolding record_of same
addition_fields t r =
    ⊎_elim
    (λ e. rw e)
    (λ h.
    ap (λ fs. record_of ((letter_a ∷ []) ∷ t ∷ fs)) (fields_next r h)
    ∙ addition_more t (take (before tab r) r) (fields (drop (suc (before tab r)) r)) (fields_some (drop (suc (before tab r)) r))
    ∙ rw (tab_no_number r h, and-false (is_number t)))
    (some_field r)

-- the record of R, a term, from, and what stands behind its tab
pub removal_fields :
    (t a r : List ℕ) →
    record_of ((letter_r ∷ []) ∷ t ∷ a ∷ fields r) ≡
    cond (is_number t && is_number a && is_number r) (2 ∷ worth 0 t ∷ worth 0 a ∷ worth 0 r ∷ []) []
unfolding record_of same
removal_fields t a r =
    ⊎_elim
    (λ e. rw e)
    (λ h.
    ap (λ fs. record_of ((letter_r ∷ []) ∷ t ∷ a ∷ fs)) (fields_next r h)
    ∙ removal_more t a (take (before tab r) r) (fields (drop (suc (before tab r)) r)) (fields_some (drop (suc (before tab r)) r))
    ∙ rw (tab_no_number r h, and-false (is_number t && is_number a)))
    (some_field r)

-- too few fields
pub one_field : (k : List ℕ) → record_of (k ∷ []) ≡ []
unfolding record_of
one_field k = refl

pub two_fields : (k t : List ℕ) → record_of (k ∷ t ∷ []) ≡ []
unfolding record_of
two_fields k t = refl

pub removal_few : (t a : List ℕ) → record_of ((letter_r ∷ []) ∷ t ∷ a ∷ []) ≡ []
unfolding record_of same
removal_few t a = refl

-- a first field that is neither letter
pub other_letter : (k : List ℕ) (fs : List (List ℕ)) → same k (letter_a ∷ []) ≡ false → same k (letter_r ∷ []) ≡ false → record_of (k ∷ fs) ≡ []
unfolding record_of
other_letter k [] a r = refl
other_letter k (t ∷ []) a r = refl
other_letter k (t ∷ p ∷ []) a r = rw a
other_letter k (t ∷ b ∷ z ∷ []) a r = rw r
other_letter k (t ∷ b ∷ z ∷ f ∷ fs) a r = refl

-- a letter and a tab, and what stands behind them
pub line_letter :
    (c : ℕ) (l : List ℕ) → 2 ≤ length l → get_or l 1 0 ≡ tab → get_or l 0 0 ≡ c → c ≢ tab →
    line_record l ≡ record_of ((c ∷ []) ∷ fields (take (length l - 2) (drop 2 l)))
unfolding line_record
line_letter c [] h t e n = absurd (omega arith)
line_letter c (x ∷ []) h t e n = absurd (omega arith)
line_letter c (x ∷ y ∷ l) h t e n =
    let b : before tab (x ∷ y ∷ l) ≡ 1 = before_pass tab x (y ∷ l) (λ k. n (sym e ∙ k)) ∙ ap suc (before_mark tab y l t) in
    let s : take (suc (suc (length l)) - 2) l ≡ l = take_all (suc (suc (length l)) - 2) l (omega arith) in
    ap record_of
    (fields_next (x ∷ y ∷ l) (omega (arith, b))
    ∙ rw (b, s, e))

-- a field of another length than 1 is no letter
same_one : (k : List ℕ) (c : ℕ) → length k ≢ 1 → same k (c ∷ []) ≡ false
unfolding same
same_one [] c h = refl
same_one (x ∷ []) c h = absurd (h refl)
same_one (x ∷ y ∷ k) c h = and-false (eqb x c)

-- where the first tab is not behind one byte, the line has another form
pub no_letter : (l : List ℕ) → before tab l ≢ 1 → line_record l ≡ []
unfolding line_record
no_letter l h = ⊎_elim (λ e. rw e (one_field l)) (λ t. rw (fields_next l t) (other (take (before tab l) l) (fields (drop (suc (before tab l)) l)) (λ e. h (sym (length-take-le (before tab l) l (before_most tab l)) ∙ e)))) (some_field l)
  where
    other : (k : List ℕ) (fs : List (List ℕ)) → length k ≢ 1 → record_of (k ∷ fs) ≡ []
    other k fs n = other_letter k fs (same_one k letter_a n) (same_one k letter_r n)

-- a line of fewer than two bytes
pub line_short : (l : List ℕ) → length l < 2 → [] ≡ line_record l
unfolding line_record
line_short l h = go (eqb (before tab l) 1) refl
  where
    go : (t : Bool) → eqb (before tab l) 1 ≡ t → [] ≡ record_of (fields l)
    go true e = rw (fields_one l (omega (arith, h, eqb-true (before tab l) 1 e, before_most tab l))) (sym (one_field l))
    go false e = sym (no_letter l (eqb-false (before tab l) 1 e))

-- a line whose second byte is no tab
pub line_no_tab : (l : List ℕ) → 2 ≤ length l → get_or l 1 0 ≢ tab → [] ≡ line_record l
line_no_tab [] h n = absurd (omega arith)
line_no_tab (x ∷ []) h n = absurd (omega arith)
line_no_tab (x ∷ y ∷ l) h n = sym (no_letter (x ∷ y ∷ l) (λ e. go (eqb x tab) refl e))
  where
    go : (t : Bool) → eqb x tab ≡ t → before tab (x ∷ y ∷ l) ≡ 1 → ⊥
    go true k e = omega (arith, e, before_mark tab x (y ∷ l) (eqb-true x tab k))
    go false k e = omega (arith, e, before_pass tab x (y ∷ l) (eqb-false x tab k), before_pass tab y l n)

letter_not : (x c : ℕ) → x ≢ c → same (x ∷ []) (c ∷ []) ≡ false
unfolding same
letter_not x c n = rw (ne_eqb x c n)

first_tab : (l : List ℕ) → 2 ≤ length l → get_or l 0 0 ≡ tab → before tab l ≡ 1 → ⊥
first_tab [] h k e = omega arith
first_tab (x ∷ l) h k e = omega (arith, e, before_mark tab x l k)

-- a line of another letter
pub line_other : (l : List ℕ) → 2 ≤ length l → get_or l 1 0 ≡ tab → get_or l 0 0 ≢ letter_a → get_or l 0 0 ≢ letter_r → [] ≡ line_record l
line_other l h t a r = go (eqb (get_or l 0 0) tab) refl
  where
    go : (s : Bool) → eqb (get_or l 0 0) tab ≡ s → [] ≡ line_record l
    go true k = sym (no_letter l (λ e. first_tab l h (eqb-true (get_or l 0 0) tab k) e))
    go false k =
        sym
        (line_letter (get_or l 0 0) l h t refl (eqb-false (get_or l 0 0) tab k)
        ∙ other_letter (get_or l 0 0 ∷ []) (fields (take (length l - 2) (drop 2 l))) (letter_not (get_or l 0 0) letter_a a) (letter_not (get_or l 0 0) letter_r r))
