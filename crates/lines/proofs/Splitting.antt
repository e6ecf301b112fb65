-- Bytes split at marks: lines at line feeds, fields at tabs.
use Prim.Native.Nat.{ℕ, suc, ◌+◌, ◌≤◌, ◌-◌, min, ◌<◌, zero-le}
use native.Mathlib.Omega.{arith}
use mathlib.Core.Path.{◌≡◌, refl, sym, ap, ◌∙◌}
use mathlib.Core.Logic.{◌≢◌}
use mathlib.Core.Bool.{Bool, true, false, cond}
use mathlib.Core.List.{List, [], ◌∷◌, ◌++◌, append-nil}
use borrow.Author.Tests.{ltb-true, ltb-false, eqb-true, eqb-false, eq-eqb, ne_eqb}
use lib.ListN.{length, take, drop, get_or, drop_of_length-le, length-append, get_or-append}
use lib.Seq.{drop-cons, drop-append_seam, take_all}
use Rattle.std.proofs.lemmas.List.{take-append-le, nil_from_length}
use lib.Dec.{ltb, eqb}
use Rattle.std.specs.List.{IsFirstMatchOrLen}
use Rattle.std.proofs.lemmas.List.Recursion.{is_position_or_len}
use Rattle.std.proofs.lemmas.List.Sums.{position_or_len_is}
use Rattle.lines.specs.Lines.{tab, line_feed, longer, lines, fields}

-- how many bytes stand before the first that is a mark
unfoldable pub before : ℕ → List ℕ → ℕ
before m [] = 0
before m (b ∷ bs) = cond (eqb b m) 0 (suc (before m bs))

pub before_most : (m : ℕ) (bs : List ℕ) → before m bs ≤ length bs
unfolding before
before_most m [] = zero-le
before_most m (b ∷ bs) = go (before_most m bs) (eqb b m)
  where
    go : before m bs ≤ length bs → (t : Bool) → cond t 0 (suc (before m bs)) ≤ suc (length bs)
    go ih true = zero-le
    go ih false = omega (arith, ih)

-- a mark is found where it stands, and a byte that is none is passed
pub before_mark : (m b : ℕ) (bs : List ℕ) → b ≡ m → before m (b ∷ bs) ≡ 0
unfolding before
before_mark m b bs e = rw (eq-eqb b m e)

pub before_pass : (m b : ℕ) (bs : List ℕ) → b ≢ m → before m (b ∷ bs) ≡ suc (before m bs)
unfolding before
before_pass m b bs e = rw (ne_eqb b m e)

pub before_none : (m : ℕ) → before m [] ≡ 0
unfolding before
before_none m = refl

-- the first line, and the lines behind its line feed
pub lines_next : (b : ℕ) (bs : List ℕ) → let all = b ∷ bs in let k = before line_feed all in lines all ≡ take k all ∷ lines (drop (suc k) all)
unfolding lines before longer
lines_next b [] = go (eqb b line_feed)
  where
    go : (t : Bool) → cond t ([] ∷ lines []) (longer b (lines [])) ≡ take (cond t 0 1) (b ∷ []) ∷ lines (drop (suc (cond t 0 1)) (b ∷ []))
    go true = refl
    go false = refl
lines_next b (c ∷ cs) = go (lines_next c cs) (eqb b line_feed)
  where
    go :
        lines (c ∷ cs) ≡ take (before line_feed (c ∷ cs)) (c ∷ cs) ∷ lines (drop (suc (before line_feed (c ∷ cs))) (c ∷ cs)) → (t : Bool) →
        cond t ([] ∷ lines (c ∷ cs)) (longer b (lines (c ∷ cs))) ≡
        take (cond t 0 (suc (before line_feed (c ∷ cs)))) (b ∷ c ∷ cs) ∷ lines (drop (suc (cond t 0 (suc (before line_feed (c ∷ cs))))) (b ∷ c ∷ cs))
    go ih true = refl
    go ih false = ap (longer b) ih

-- the first field, and those behind its tab
pub fields_next : (bs : List ℕ) → let k = before tab bs in k < length bs → fields bs ≡ take k bs ∷ fields (drop (suc k) bs)
unfolding fields before longer
fields_next [] h = absurd (omega arith)
fields_next (b ∷ bs) h = go (fields_next bs) (eqb b tab) h
  where
    go :
        (before tab bs < length bs → fields bs ≡ take (before tab bs) bs ∷ fields (drop (suc (before tab bs)) bs)) → (t : Bool) →
        cond t 0 (suc (before tab bs)) < suc (length bs) →
        cond t ([] ∷ fields bs) (longer b (fields bs)) ≡
        take (cond t 0 (suc (before tab bs))) (b ∷ bs) ∷ fields (drop (suc (cond t 0 (suc (before tab bs)))) (b ∷ bs))
    go ih true l = refl
    go ih false l = ap (longer b) (ih (omega (arith, l)))

-- or it is the only one
pub fields_one : (bs : List ℕ) → before tab bs ≡ length bs → fields bs ≡ bs ∷ []
unfolding fields before longer
fields_one [] h = refl
fields_one (b ∷ bs) h = go (fields_one bs) (eqb b tab) h
  where
    go :
        (before tab bs ≡ length bs → fields bs ≡ bs ∷ []) → (t : Bool) → cond t 0 (suc (before tab bs)) ≡ suc (length bs) →
        cond t ([] ∷ fields bs) (longer b (fields bs)) ≡ (b ∷ bs) ∷ []
    go ih true l = absurd (omega (arith, l))
    go ih false l = ap (longer b) (ih (omega (arith, l)))

-- a piece that a mark ends without it, and any other as it is
pub record Stripped (m : ℕ) (x y : List ℕ) : Type 0 where
  pub marked : drop (length x - 1) x ≡ m ∷ [] → y ≡ take (length x - 1) x
  pub other : drop (length x - 1) x ≢ m ∷ [] → y ≡ x

-- where the first mark stands, or else the end
first_mark : (m : ℕ) (bs : List ℕ) (i : ℕ) → IsFirstMatchOrLen (λ b. eqb b m) bs i → before m bs ≡ min i (length bs)
unfolding before
first_mark m bs i f =
    is_position_or_len (before m) (λ b. eqb b m) refl (λ x xs. ap (cond (eqb x m) 0) (omega arith)) bs
    ∙ position_or_len_is (λ b. eqb b m) bs (min i (length bs)) 0 (omega arith) (λ k h. f.0 k 0 zero-le (omega (arith, h)))
    (λ h. let e : min i (length bs) ≡ i = omega (arith, h) in rw e (f.1 (omega (arith, h)) 0))

lines_first : (bs : List ℕ) → 0 < length bs → let k = before line_feed bs in lines bs ≡ take k bs ∷ lines (drop (suc k) bs)
lines_first [] h = absurd (omega arith)
lines_first (b ∷ bs) h = lines_next b bs

last_byte : (x : List ℕ) (k : ℕ) → length x ≡ suc k → drop k x ≡ get_or x k 0 ∷ []
last_byte x k e = drop-cons x k 0 (omega (arith, e)) ∙ ap (λ l. get_or x k 0 ∷ l) (drop_of_length-le x {i = suc k} (omega (arith, e)))

-- the first piece of some bytes, which ends behind the first line feed or with them, is the first line
pub lines_piece :
    (bs x after y : List ℕ) (i : ℕ) → bs ≡ x ++ after → length x ≡ min (i + 1) (length bs) → IsFirstMatchOrLen (λ b. eqb b line_feed) bs i → 0 < length bs →
    Stripped line_feed x y → lines bs ≡ y ∷ lines after
lines_piece bs x after y i e n f h s = lines_first bs h ∙ go (ltb i (length bs)) refl
  where
    sum : length bs ≡ length x + length after
    sum = ap length e ∙ length-append x after

    go : (t : Bool) → ltb i (length bs) ≡ t → take (before line_feed bs) bs ∷ lines (drop (suc (before line_feed bs)) bs) ≡ y ∷ lines after
    go true t =
        let l : i < length bs = ltb-true i (length bs) t in
        let k : before line_feed bs ≡ i = first_mark line_feed bs i f ∙ omega (arith, l) in
        let long : length x ≡ suc i = omega (arith, n, l) in
        let front : length x - 1 ≡ i = omega (arith, long) in
        let byte : get_or x i 0 ≡ line_feed = sym (get_or-append x after 0 i (omega (arith, long))) ∙ ap (λ z. get_or z i 0) (sym e) ∙ eqb-true (get_or bs i 0) line_feed (f.1 l 0) in
        let last : drop (length x - 1) x ≡ line_feed ∷ [] = rw front (last_byte x i long ∙ ap (λ z. z ∷ []) byte) in
        let line : take i bs ≡ y = ap (take i) e ∙ take-append-le i x after (omega (arith, long)) ∙ sym (s.marked last ∙ ap (λ j. take j x) front) in
        let rest : drop (suc i) bs ≡ after = ap (drop (suc i)) e ∙ ap (λ j. drop j (x ++ after)) (sym long) ∙ drop-append_seam x after in
        rw k (ap (λ z. z ∷ lines (drop (suc i) bs)) line ∙ ap (λ z. y ∷ lines z) rest)
    go false t =
        let l : length bs ≤ i = ltb-false i (length bs) t in
        let k : before line_feed bs ≡ length bs = first_mark line_feed bs i f ∙ omega (arith, l) in
        let none : after ≡ [] = nil_from_length after (omega (arith, n, l, sum)) in
        let whole : bs ≡ x = e ∙ ap (λ z. x ++ z) none ∙ append-nil x in
        let long : length x ≡ suc (length x - 1) = omega (arith, h, n, l) in
        let byte : get_or x (length x - 1) 0 ≢ line_feed = λ z. eqb-false (get_or bs (length x - 1) 0) line_feed (f.0 (length x - 1) 0 zero-le (omega (arith, h, n, l))) (ap (λ u. get_or u (length x - 1) 0) whole ∙ z) in
        let line : y ≡ x = s.other (λ z. byte (ap (λ u. get_or u 0 0) (sym (last_byte x (length x - 1) long) ∙ z))) in
        let rest : drop (suc (length bs)) bs ≡ after = drop_of_length-le bs {i = suc (length bs)} (omega arith) ∙ sym none in
        rw k (ap (λ z. z ∷ lines (drop (suc (length bs)) bs)) (take_all (length bs) bs (omega arith) ∙ whole ∙ sym line) ∙ ap (λ z. y ∷ lines z) rest)
