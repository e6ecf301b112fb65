-- The fields of a line, taken one after another.
use Rattle.std.specs.Slice.Iter as slice
use Rattle.std.specs.Fn.{CalledAt, ComputesKey}
use Rattle.std.specs.Option.{MatchOption, unwrap_or}
use Rattle.std.proofs.lemmas.Fn.{always_returns_same}
use lib.Pointwise.{pointwise}
use Rattle.lines.proofs.Splitting.{Stripped, lines_piece}
use Rattle.std.specs.List.{slice_split, onto_first, IsFirstMatchOrLen}
use Rattle.std.proofs.Common.{◌≡◌, ◌≢◌, refl, sym, ap, subst, ◌∙◌, ℕ, ◌+◌, ◌-◌, ◌<◌, Bool, true, false, cond, Option, Some, None, List, [], ◌∷◌, ◌++◌, length, get_or, take, drop, min, arith, Bor}
use Rattle.std.proofs.lemmas.Iterator.{YieldsList}
use Rattle.std.proofs.lemmas.Iterator.Splits.{YieldsList-from_slice_split}
use denote.Param.Members.{Mut}
use mathlib.Core.Bool.{◌&&◌, and-false}
use borrow.Author.Tests.{eqb-true}
use lib.Dec.{eqb}
use Rattle.figures.specs.code.Reading.{number_in}
use Rattle.figures.proofs.Reading.{read_number}
use Rattle.lines.specs.declared.line.Kind.{Kind}
use Rattle.lines.specs.declared.line.Kind.TheVariants.{Adds, Removes}
use Rattle.pair.specs.Tests.{same}
use Rattle.pair.proofs.Tests.{and_left, and_right}
use Rattle.figures.specs.Figures.{is_number}
use Rattle.lines.specs.Lines.{tab, line_feed, lines, letter_a, letter_r, longer, fields, record_of}
use Rattle.lines.specs.code.Gathering.{kind_number, kind_of}
use Rattle.lines.proofs.Lines.{other_letter, removal_few, addition_more}

pub kind_of_one : (k : List ℕ) → length k ≡ 1 → kind_of k ≡ cond (eqb (get_or k 0 0) letter_a) (Some Adds) (cond (eqb (get_or k 0 0) letter_r) (Some Removes) None)
unfolding kind_of
kind_of_one [] e = absurd (omega arith)
kind_of_one (b ∷ []) e = refl
kind_of_one (b ∷ c ∷ k) e = absurd (omega arith)

pub kind_of_other : (k : List ℕ) → length k ≢ 1 → kind_of k ≡ None
unfolding kind_of
kind_of_other [] n = refl
kind_of_other (b ∷ []) n = absurd (n refl)
kind_of_other (b ∷ c ∷ k) n = refl

longer_first : (b : ℕ) (fs : List (List ℕ)) → onto_first b fs ≡ longer b fs
unfolding longer
longer_first b [] = refl
longer_first b (f ∷ fs) = refl

fields_split : (bs : List ℕ) → slice_split (λ b. eqb b tab) bs ≡ fields bs
unfolding fields
fields_split [] = refl
fields_split (b ∷ bs) = ap (λ fs. cond (eqb b tab) ([] ∷ fs) (onto_first b fs)) (fields_split bs) ∙ ap (cond (eqb b tab) ([] ∷ fields bs)) (longer_first b (fields bs))

-- an iterator has yet to yield these fields
pub record Left {S : Type 0} (steps : S → Option (Bor (List ℕ)) → S → Type 0) (s : S) (fs : List (List ℕ)) : Type 0 where
  pub yields : YieldsList steps (λ (x : Bor (List ℕ)). x.now) s fs

pub left_start :
    {F : Type 0} {s : _} (g : Mut F (Bor ℕ × Unit {0}) Bool) {f : F} (l : List ℕ) → slice.split_rest s ≡ l → slice.split_done s ≡ false → slice.split_callee s ≡ f →
    ((x : ℕ) (b : Bool) (q : F) → CalledAt g f x b q → (q ≡ f) × (b ≡ eqb x tab)) → Left (slice.split_steps g) s (fields l)
left_start {s = s} g l rest done callee tells =
    record { yields = subst (YieldsList (slice.split_steps g) (λ (x : Bor (List ℕ)). x.now) s) (fields_split l) (YieldsList-from_slice_split g (λ b. eqb b tab) l rest done callee tells) }

pub left_same : {S : Type 0} {steps : S → Option (Bor (List ℕ)) → S → Type 0} {s t : S} {fs : List (List ℕ)} → Left steps s fs → t ≡ s → Left steps t fs
left_same {steps = steps} {fs = fs} l e = subst (λ s. Left steps s fs) (sym e) l

-- the next field, and those behind it
pub record Taken {S : Type 0} (steps : S → Option (Bor (List ℕ)) → S → Type 0) (fs : List (List ℕ)) (x : List ℕ) (t : S) : Type 0 where
  pub rest : List (List ℕ)
  pub all : fs ≡ x ∷ rest
  pub left : Left steps t rest

pub left_some :
    {S : Type 0} {steps : S → Option (Bor (List ℕ)) → S → Type 0} {s : S} {fs : List (List ℕ)} → Left steps s fs → (x : Bor (List ℕ)) (t : S) → steps s (Some x) t → Taken steps fs x.now t
left_some {fs = []} l x t k = absurd (l.yields.runs x t k)
left_some {fs = f ∷ fs} l x t k = let m = l.yields.runs.1 x t k in record { rest = fs; all = ap (λ y. y ∷ fs) (sym m.0); left = record { yields = record { runs = m.1 } } }

pub left_none : {S : Type 0} {steps : S → Option (Bor (List ℕ)) → S → Type 0} {s : S} {fs : List (List ℕ)} → Left steps s fs → (t : S) → steps s None t → fs ≡ []
left_none {fs = []} l t k = refl
left_none {fs = f ∷ fs} l t k = absurd (l.yields.runs.0 t k)

pub left_first :
    {F : Type 0} {g : Mut F (Bor ℕ × Unit {0}) Bool} {f : F} (l : List ℕ) (s : _) (x : Bor (List ℕ)) (t : _) → slice.split_steps g s (Some x) t → slice.split_rest s ≡ l → slice.split_done s ≡ false → slice.split_callee s ≡ f →
    ((x : ℕ) (b : Bool) (q : F) → CalledAt g f x b q → (q ≡ f) × (b ≡ eqb x tab)) → Taken (slice.split_steps g) (fields l) x.now t
left_first {g = g} l s x t k rest done callee tells = left_some {s = s} (left_start {s = s} g l rest done callee tells) x t k

-- the letter of a kind
letter_adds : (k : List ℕ) → Some Adds ≡ kind_of k → k ≡ letter_a ∷ []
unfolding kind_of
letter_adds [] e = cc
letter_adds (b ∷ []) e = go (eqb b letter_a) refl (eqb b letter_r) e
  where
    go : (s : Bool) → eqb b letter_a ≡ s → (t : Bool) → Some Adds ≡ cond s (Some Adds) (cond t (Some Removes) None) → b ∷ [] ≡ letter_a ∷ []
    go true k t e = ap (λ x. x ∷ []) (eqb-true b letter_a k)
    go false k true e = cc
    go false k false e = cc
letter_adds (b ∷ c ∷ k) e = cc

letter_removes : (k : List ℕ) → Some Removes ≡ kind_of k → k ≡ letter_r ∷ []
unfolding kind_of
letter_removes [] e = cc
letter_removes (b ∷ []) e = go (eqb b letter_a) (eqb b letter_r) refl e
  where
    go : (s t : Bool) → eqb b letter_r ≡ t → Some Removes ≡ cond s (Some Adds) (cond t (Some Removes) None) → b ∷ [] ≡ letter_r ∷ []
    go true t k e = cc
    go false true k e = ap (λ x. x ∷ []) (eqb-true b letter_r k)
    go false false k e = cc
letter_removes (b ∷ c ∷ k) e = cc

letter_none : (k : List ℕ) → None ≡ kind_of k → (same k (letter_a ∷ []) ≡ false) × (same k (letter_r ∷ []) ≡ false)
unfolding kind_of same
letter_none [] e = (refl, refl)
letter_none (b ∷ []) e = go (eqb b letter_a) (eqb b letter_r) e
  where
    go : (s t : Bool) → None ≡ cond s (Some Adds) (cond t (Some Removes) None) → ((s && true) ≡ false) × ((t && true) ≡ false)
    go true t e = cc
    go false true e = cc
    go false false e = (refl, refl)
letter_none (b ∷ c ∷ k) e = (and-false (eqb b letter_a), and-false (eqb b letter_r))

-- no record: a first field that is no letter, another field that is no number
pub record_letter : (k : List ℕ) (fs : List (List ℕ)) → None ≡ kind_of k → record_of (k ∷ fs) ≡ []
record_letter k fs e = let n = letter_none k e in other_letter k fs n.0 n.1

pub record_second : (k t : List ℕ) (fs : List (List ℕ)) → is_number t ≡ false → record_of (k ∷ t ∷ fs) ≡ []
unfolding record_of
record_second k t [] e = refl
record_second k t (p ∷ []) e = rw (e, and-false (same k (letter_a ∷ [])))
record_second k t (a ∷ z ∷ []) e = rw (e, and-false (same k (letter_r ∷ [])))
record_second k t (a ∷ z ∷ f ∷ fs) e = refl

pub record_third : (k t a : List ℕ) (fs : List (List ℕ)) → is_number a ≡ false → record_of (k ∷ t ∷ a ∷ fs) ≡ []
unfolding record_of
record_third k t a [] e = rw (e, and-false (same k (letter_a ∷ []) && is_number t))
record_third k t a (z ∷ []) e = rw (e, and-false (same k (letter_r ∷ []) && is_number t))
record_third k t a (z ∷ f ∷ fs) e = refl

pub record_fourth : (k t a z : List ℕ) (fs : List (List ℕ)) → is_number z ≡ false → record_of (k ∷ t ∷ a ∷ z ∷ fs) ≡ []
unfolding record_of
record_fourth k t a z [] e = rw (e, and-false (same k (letter_r ∷ []) && is_number t && is_number a))
record_fourth k t a z (f ∷ fs) e = refl

-- fields too few, or too many
pub record_few : (k t a : List ℕ) → Some Removes ≡ kind_of k → record_of (k ∷ t ∷ a ∷ []) ≡ []
record_few k t a e = rw (letter_removes k e) (removal_few t a)

pub record_more : (k t p z : List ℕ) (fs : List (List ℕ)) → Some Adds ≡ kind_of k → record_of (k ∷ t ∷ p ∷ z ∷ fs) ≡ []
record_more k t p z fs e = rw (letter_adds k e) (addition_more t p (z ∷ fs) (omega arith))

pub record_many : (k t a z f : List ℕ) (fs : List (List ℕ)) → record_of (k ∷ t ∷ a ∷ z ∷ f ∷ fs) ≡ []
unfolding record_of
record_many k t a z f fs = refl

-- the records of both kinds
pub record_adds :
    {kind : Kind} {n m x : ℕ} (k t p : List ℕ) → kind ≡ Adds → Some kind ≡ kind_of k → Some n ≡ number_in t → Some m ≡ number_in p → x ≡ m →
    kind_number kind ∷ n ∷ m ∷ x ∷ [] ≡ record_of (k ∷ t ∷ p ∷ [])
unfolding record_of same
record_adds k t p is e f g h =
    let a = read_number t (sym f) in
    let b = read_number p (sym g) in
    rw (is, h, letter_adds k (ap Some (sym is) ∙ e), a.0, b.0, a.1, b.1)

pub record_removes :
    {kind : Kind} {n m x y : ℕ} (k t a z : List ℕ) → kind ≡ Removes → Some kind ≡ kind_of k → Some n ≡ number_in t → Some m ≡ number_in a → Some y ≡ number_in z → x ≡ y →
    kind_number kind ∷ n ∷ m ∷ x ∷ [] ≡ record_of (k ∷ t ∷ a ∷ z ∷ [])
unfolding record_of same
record_removes k t a z is e f g h i =
    let b = read_number t (sym f) in
    let c = read_number a (sym g) in
    let d = read_number z (sym h) in
    rw (is, i, letter_removes k (ap Some (sym is) ∙ e), b.0, c.0, d.0, b.1, c.1, d.1)

-- a piece without the line feed at its end
same_mark : (m : ℕ) (d : List ℕ) → pointwise eqb d (m ∷ []) ≡ true → d ≡ m ∷ []
same_mark m [] e = cc
same_mark m (b ∷ []) e = ap (λ x. x ∷ []) (eqb-true b m (and_left (eqb b m) true e))
same_mark m (b ∷ c ∷ d) e = let f = and_right (eqb b m) false e in cc

stripped :
    (o : Option (Bor (List ℕ))) (x y : Bor (List ℕ)) →
    MatchOption o (pointwise eqb (drop (length x.now - 1) x.now) (line_feed ∷ []) ≡ false)
    (λ z. (pointwise eqb (drop (length x.now - 1) x.now) (line_feed ∷ []) ≡ true) × (z.now ≡ take (length x.now - 1) x.now) × (length z.now + 1 ≡ length x.now)) →
    y ≡ unwrap_or o x → Stripped line_feed x.now y.now
stripped None x y h e = record { marked = λ z. let t : true ≡ false = ap (λ d. pointwise eqb d (line_feed ∷ [])) (sym z) ∙ h in cc; other = λ n. ap (λ w. w.now) e }
stripped (Some z) x y h e = record { marked = λ k. ap (λ w. w.now) e ∙ h.1; other = λ n. absurd (n (same_mark line_feed (drop (length x.now - 1) x.now) h.0)) }

-- the lines of what a split at line feeds has yet to yield: its next piece, stripped, and those behind
pub first_line :
    {F : Type 0} {g : Mut F (Bor ℕ × Unit {0}) Bool} {f f₁ : F} {rest : List ℕ} (after : List ℕ) (x : Bor (List ℕ)) (o : Option (Bor (List ℕ))) (y : Bor (List ℕ)) →
    (rest ≡ x.now ++ after)
    × ((i : ℕ) × (length x.now ≡ min (i + 1) (length rest)) × ((p : ℕ → Bool) → ComputesKey g p f → ComputesKey g p f₁ × IsFirstMatchOrLen p rest i))
    × (0 < length rest) →
    ((z : ℕ) (b : Bool) (q : F) → CalledAt g f z b q → (q ≡ f) × (b ≡ eqb z line_feed)) →
    MatchOption o (pointwise eqb (drop (length x.now - 1) x.now) (line_feed ∷ []) ≡ false)
    (λ z. (pointwise eqb (drop (length x.now - 1) x.now) (line_feed ∷ []) ≡ true) × (z.now ≡ take (length x.now - 1) x.now) × (length z.now + 1 ≡ length x.now)) →
    y ≡ unwrap_or o x → lines rest ≡ y.now ∷ lines after
first_line {g = g} {f} {rest = rest} after x o y a tells h e =
    let computes : ComputesKey g (λ b. eqb b line_feed) f = always_returns_same g (λ a r. r ≡ eqb a.0.now line_feed) f (λ a r q k. let m = tells a.0.now r q (record { shown = a.0; shows = refl; called = k }) in (m.1, m.0)) in
    lines_piece rest x.now after y.now a.1.0 a.0 a.1.1 (a.1.2 (λ b. eqb b line_feed) computes).1 a.2 (stripped o x y h e)
