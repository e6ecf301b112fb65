-- A line that is a record is short, so the beginning of a file settles it.
use Prim.Native.Nat.{ℕ, zero, suc, ◌+◌, ◌*◌, ◌-◌, ◌≤◌, ◌<◌, min, zero-le}
use native.Mathlib.Omega.{arith}
use mathlib.Core.Path.{◌≡◌, refl, sym, ap, ◌∙◌}
use mathlib.Core.Logic.{◌≢◌, ◌⊎◌, inl, inr, ⊎_elim}
use mathlib.Core.Bool.{Bool, true, false, cond, ◌&&◌, and-false}
use mathlib.Core.List.{List, [], ◌∷◌}
use borrow.Author.Tests.{leb-true, leb-false, ltb-true, ltb-false, ne_eqb, eqb-true, eqb-false}
use lib.ListN.{length, take, drop, length-drop}
use lib.Seq.{take_all, take-nil, take-take, length-take-le}
use lib.Dec.{leb, ltb, eqb}
use Rattle.pair.specs.Tests.{same, first_of}
use Rattle.pair.proofs.Lists.{drop_take}
use Rattle.pair.proofs.Tests.{and_left, and_right, contradiction}
use Rattle.figures.specs.Figures.{worth, is_number}
use Rattle.figures.specs.Claims.{NumbersOnly}
use Rattle.figures.proofs.Figures.{decimal_few}
use Rattle.figures.proofs.Claims.{numbers_only}
use Rattle.lines.specs.Lines.{tab, line_feed, letter_a, letter_r, longer, lines, fields, record_of, line_record, line_number, fault_from, fault, scores_number, scored}
use Rattle.lines.specs.Claims.{LinesShort, settling_bytes, FileSettled}
use Rattle.lines.proofs.Lines.{fields_some}
use Rattle.lines.proofs.Gathering.{number_other, fault_here, fault_later}
use Rattle.lines.proofs.Room.{numberless_few}
use Rattle.lines.proofs.Splitting.{before, before_most, before_mark, before_pass, before_none, lines_next}

-- a number has at most ten figures
number_short : (bs : List ℕ) → is_number bs ≡ true → length bs ≤ 10
unfolding NumbersOnly
number_short bs e = let n = numbers_only bs e in omega (arith, ap length n.0, decimal_few (worth 0 bs) n.1)

-- the bytes of fields, each with one that parts it
unfoldable long : List (List ℕ) → ℕ
long [] = 0
long (f ∷ fs) = suc (length f + long fs)

longer_long : (b : ℕ) (fs : List (List ℕ)) → 0 < length fs → long (longer b fs) ≡ suc (long fs)
unfolding long longer
longer_long b [] h = absurd (omega arith)
longer_long b (f ∷ fs) h = omega arith

fields_long : (l : List ℕ) → long (fields l) ≡ suc (length l)
unfolding long fields
fields_long [] = omega arith
fields_long (b ∷ l) = go (fields_long l) (eqb b tab)
  where
    go : long (fields l) ≡ suc (length l) → (t : Bool) → long (cond t ([] ∷ fields l) (longer b (fields l))) ≡ suc (suc (length l))
    go ih true = omega (arith, ih)
    go ih false = longer_long b (fields l) (fields_some l) ∙ ap suc ih

-- a letter is one byte
same_length : (k : List ℕ) (c : ℕ) → same k (c ∷ []) ≡ true → length k ≡ 1
unfolding same
same_length [] c e = contradiction false e refl
same_length (x ∷ []) c e = refl
same_length (x ∷ y ∷ k) c e = contradiction false (sym (and-false (eqb x c)) ∙ e) refl

record_short : (fs : List (List ℕ)) → length (record_of fs) ≢ 0 → long fs ≤ 35
unfolding record_of long
record_short [] n = absurd (n refl)
record_short (k ∷ []) n = absurd (n refl)
record_short (k ∷ t ∷ []) n = absurd (n refl)
record_short (k ∷ t ∷ p ∷ []) n = go (same k (letter_a ∷ []) && is_number t && is_number p) refl n
  where
    go :
        (s : Bool) → (same k (letter_a ∷ []) && is_number t && is_number p) ≡ s → length (cond s (1 ∷ worth 0 t ∷ worth 0 p ∷ worth 0 p ∷ []) []) ≢ 0 →
        suc (length k + suc (length t + suc (length p + 0))) ≤ 35
    go true e n =
        let two = and_left (same k (letter_a ∷ []) && is_number t) (is_number p) e in
        omega (
          arith,
          same_length k letter_a (and_left (same k (letter_a ∷ [])) (is_number t) two),
          number_short t (and_right (same k (letter_a ∷ [])) (is_number t) two),
          number_short p (and_right (same k (letter_a ∷ []) && is_number t) (is_number p) e),
        )
    go false e n = absurd (n refl)
record_short (k ∷ t ∷ a ∷ z ∷ []) n = go (same k (letter_r ∷ []) && is_number t && is_number a && is_number z) refl n
  where
    go :
        (s : Bool) → (same k (letter_r ∷ []) && is_number t && is_number a && is_number z) ≡ s → length (cond s (2 ∷ worth 0 t ∷ worth 0 a ∷ worth 0 z ∷ []) []) ≢ 0 →
        suc (length k + suc (length t + suc (length a + suc (length z + 0)))) ≤ 35
    go true e n =
        let letter = same k (letter_r ∷ []) in
        let three = and_left (letter && is_number t && is_number a) (is_number z) e in
        let two = and_left (letter && is_number t) (is_number a) three in
        omega (
          arith,
          same_length k letter_r (and_left letter (is_number t) two),
          number_short t (and_right letter (is_number t) two),
          number_short a (and_right (letter && is_number t) (is_number a) three),
          number_short z (and_right (letter && is_number t && is_number a) (is_number z) e),
        )
    go false e n = absurd (n refl)
record_short (k ∷ t ∷ a ∷ z ∷ f ∷ fs) n = absurd (n refl)

pub lines_short : LinesShort
unfolding LinesShort line_record
lines_short l n = omega (arith, fields_long l, record_short (fields l) n)

-- a line of more bytes has another form
long_line : (i : ℕ) (l : List ℕ) → 35 ≤ length l → line_number i l ≡ 12
unfolding LinesShort
long_line i l h = number_other i l (none (line_record l) refl)
  where
    none : (r : List ℕ) → line_record l ≡ r → line_record l ≡ []
    none [] e = e
    none (x ∷ r) e = absurd (omega (arith, h, lines_short l (λ z. omega (arith, ap length e, z))))

-- a line without a number is short
numberless_short : (i : ℕ) (l : List ℕ) → line_number i l ≡ 0 → length l ≤ 34
numberless_short i l e = go (ltb (length l) 35) refl
  where
    go : (t : Bool) → ltb (length l) 35 ≡ t → length l ≤ 34
    go true k = let h = ltb-true (length l) 35 k in omega (arith, h)
    go false k = absurd (omega (arith, e, long_line i l (ltb-false (length l) 35 k)))

-- marks in a beginning
before_take : (x : ℕ) (bs : List ℕ) (m : ℕ) → before x bs < m → before x (take m bs) ≡ before x bs
before_take x bs zero h = absurd (omega arith)
before_take x [] (suc m) h = refl
before_take x (b ∷ bs) (suc m) h = go (before_take x bs m) (eqb b x) refl
  where
    go : (before x bs < m → before x (take m bs) ≡ before x bs) → (t : Bool) → eqb b x ≡ t → before x (b ∷ take m bs) ≡ before x (b ∷ bs)
    go ih true e = before_mark x b (take m bs) (eqb-true b x e) ∙ sym (before_mark x b bs (eqb-true b x e))
    go ih false e =
        let n = eqb-false b x e in
        before_pass x b (take m bs) n ∙ ap suc (ih (omega (arith, h, before_pass x b bs n))) ∙ sym (before_pass x b bs n)

before_cut : (x : ℕ) (bs : List ℕ) (m : ℕ) → m ≤ before x bs → m ≤ before x (take m bs)
before_cut x bs zero h = zero-le
before_cut x [] (suc m) h = absurd (omega (arith, h, before_none x))
before_cut x (b ∷ bs) (suc m) h = go (before_cut x bs m) (eqb b x) refl
  where
    go : (m ≤ before x bs → m ≤ before x (take m bs)) → (t : Bool) → eqb b x ≡ t → suc m ≤ before x (b ∷ take m bs)
    go ih true e = absurd (omega (arith, h, before_mark x b bs (eqb-true b x e)))
    go ih false e =
        let n = eqb-false b x e in
        omega (arith, before_pass x b (take m bs) n, ih (omega (arith, h, before_pass x b bs n)))

-- the first line of some bytes, and the bytes behind it
abbrev first : List ℕ → List ℕ
first bs = take (before line_feed bs) bs

abbrev behind : List ℕ → List ℕ
behind bs = drop (suc (before line_feed bs)) bs

first_length : (bs : List ℕ) → length (first bs) ≡ before line_feed bs
first_length bs = length-take-le (before line_feed bs) bs (before_most line_feed bs)

-- a beginning that has the whole first line has it as its first
first_take : (b : ℕ) (bs : List ℕ) (m : ℕ) → let all = b ∷ bs in let k = before line_feed all in k < suc m →
    lines (take (suc m) all) ≡ first all ∷ lines (take (suc m - suc k) (behind all))
first_take b bs m h =
    let all = b ∷ bs in
    let k = before line_feed all in
    lines_next b (take m bs)
    ∙ rw (before_take line_feed all (suc m) h)
    (ap (λ l. take k (take (suc m) all) ∷ lines l) (drop_take (suc k) (suc m) all) ∙ ap (λ l. l ∷ lines (take (suc m - suc k) (behind all))) (take-take k (suc m) all (omega (arith, h))))

-- the fault of bytes whose first line is long
fault_long : (i b : ℕ) (bs : List ℕ) → 35 ≤ before line_feed (b ∷ bs) → fault_from i (lines (b ∷ bs)) ≡ record { number = 12; line = suc i }
fault_long i b bs h =
    ap (fault_from i) (lines_next b bs) ∙ fault_here i (first (b ∷ bs)) (lines (behind (b ∷ bs))) (long_line i (first (b ∷ bs)) (omega (arith, h, first_length (b ∷ bs))))

-- the first line, whole or too long in a beginning of 35 bytes or more, tells the same
settle_line :
    (i b : ℕ) (bs : List ℕ) (m : ℕ) → 34 ≤ m →
    (line_number i (first (b ∷ bs)) ≡ 0 →
    fault_from (suc i) (lines (behind (b ∷ bs))) ≡ fault_from (suc i) (lines (take (suc m - suc (before line_feed (b ∷ bs))) (behind (b ∷ bs))))) →
    fault_from i (lines (b ∷ bs)) ≡ fault_from i (lines (take (suc m) (b ∷ bs)))
settle_line i b bs m h next = go (ltb (before line_feed (b ∷ bs)) 35) refl
  where
    by_number :
        (n : ℕ) → line_number i (first (b ∷ bs)) ≡ n →
        fault_from i (first (b ∷ bs) ∷ lines (behind (b ∷ bs))) ≡
        fault_from i (first (b ∷ bs) ∷ lines (take (suc m - suc (before line_feed (b ∷ bs))) (behind (b ∷ bs))))
    by_number zero e =
        fault_later i (first (b ∷ bs)) (lines (behind (b ∷ bs))) e ∙ next e
        ∙ sym (fault_later i (first (b ∷ bs)) (lines (take (suc m - suc (before line_feed (b ∷ bs))) (behind (b ∷ bs)))) e)
    by_number (suc n) e =
        fault_here i (first (b ∷ bs)) (lines (behind (b ∷ bs))) e
        ∙ sym (fault_here i (first (b ∷ bs)) (lines (take (suc m - suc (before line_feed (b ∷ bs))) (behind (b ∷ bs)))) e)

    still_long : 35 ≤ before line_feed (b ∷ bs) → (t : Bool) → ltb (before line_feed (b ∷ bs)) (suc m) ≡ t → 35 ≤ before line_feed (take (suc m) (b ∷ bs))
    still_long l true t = omega (arith, l, before_take line_feed (b ∷ bs) (suc m) (ltb-true (before line_feed (b ∷ bs)) (suc m) t))
    still_long l false t = omega (arith, h, before_cut line_feed (b ∷ bs) (suc m) (ltb-false (before line_feed (b ∷ bs)) (suc m) t))

    go : (t : Bool) → ltb (before line_feed (b ∷ bs)) 35 ≡ t → fault_from i (lines (b ∷ bs)) ≡ fault_from i (lines (take (suc m) (b ∷ bs)))
    go true t =
        let short : before line_feed (b ∷ bs) < suc m = omega (arith, h, ltb-true (before line_feed (b ∷ bs)) 35 t) in
        ap (fault_from i) (lines_next b bs) ∙ by_number (line_number i (first (b ∷ bs))) refl ∙ ap (fault_from i) (sym (first_take b bs m short))
    go false t =
        let l = ltb-false (before line_feed (b ∷ bs)) 35 t in
        fault_long i b bs l ∙ sym (fault_long i b (take m bs) (still_long l (ltb (before line_feed (b ∷ bs)) (suc m)) refl))

settle_bytes :
    (i : ℕ) (bs : List ℕ) (m : ℕ) → 35 ≤ m →
    (line_number i (first bs) ≡ 0 →
    fault_from (suc i) (lines (behind bs)) ≡ fault_from (suc i) (lines (take (m - suc (before line_feed bs)) (behind bs)))) →
    fault_from i (lines bs) ≡ fault_from i (lines (take m bs))
settle_bytes i [] m h next = ap (λ l. fault_from i (lines l)) (sym (take-nil m))
settle_bytes i (b ∷ bs) zero h next = absurd (omega (arith, h))
settle_bytes i (b ∷ bs) (suc m) h next = settle_line i b bs m (omega (arith, h)) next

-- suc k lines of at most 35 bytes with their line feeds settle what is behind the others of 4,097
settled : (k i : ℕ) (bs : List ℕ) (m : ℕ) → i + suc k ≡ 4097 → 35 * suc k ≤ m → fault_from i (lines bs) ≡ fault_from i (lines (take m bs))
settled zero i bs m e h = settle_bytes i bs m (omega (arith, h)) (λ z. absurd (omega (arith, e, numberless_few i (first bs) z)))
settled (suc k) i bs m e h =
    settle_bytes i bs m (omega (arith, h))
    (λ z.
    settled k (suc i) (behind bs) (m - suc (before line_feed bs)) (omega (arith, e))
    (omega (arith, h, numberless_short i (first bs) z, first_length bs)))

-- a file without a fault is within these bytes: its first line is short, and so is what is behind it
faultless_next :
    (i : ℕ) (bs : List ℕ) → (fault_from i (lines bs)).number ≡ 0 → (length bs ≡ 0) ⊎ ((line_number i (first bs) ≡ 0) × ((fault_from (suc i) (lines (behind bs))).number ≡ 0))
faultless_next i [] f = inl refl
faultless_next i (b ∷ bs) f = inr (go (line_number i (first (b ∷ bs))) refl (sym (ap (λ l. (fault_from i l).number) (lines_next b bs)) ∙ f))
  where
    go :
        (n : ℕ) → line_number i (first (b ∷ bs)) ≡ n → (fault_from i (first (b ∷ bs) ∷ lines (behind (b ∷ bs)))).number ≡ 0 →
        (line_number i (first (b ∷ bs)) ≡ 0) × ((fault_from (suc i) (lines (behind (b ∷ bs)))).number ≡ 0)
    go zero e q = (e, sym (ap (λ x. x.number) (fault_later i (first (b ∷ bs)) (lines (behind (b ∷ bs))) e)) ∙ q)
    go (suc n) e q = absurd (omega (arith, sym (ap (λ x. x.number) (fault_here i (first (b ∷ bs)) (lines (behind (b ∷ bs))) e)) ∙ q))

faultless_short : (k i : ℕ) (bs : List ℕ) → i + k ≡ 4096 → (fault_from i (lines bs)).number ≡ 0 → length bs ≤ 35 * k
faultless_short zero i bs e f =
    ⊎_elim (λ z. omega (arith, z)) (λ r. absurd (omega (arith, e, numberless_few i (first bs) r.0))) (faultless_next i bs f)
faultless_short (suc k) i bs e f =
    ⊎_elim (λ z. omega (arith, z))
    (λ r.
    omega (
      arith,
      faultless_short k (suc i) (behind bs) (omega (arith, e)) r.1,
      length-drop (suc (before line_feed bs)) bs,
      numberless_short i (first bs) r.0,
      first_length bs,
    ))
    (faultless_next i bs f)

-- so the beginning has the same fault, and without one it is the whole
pub fault_settled : (bytes : List ℕ) → fault bytes ≡ fault (take settling_bytes bytes)
unfolding fault
fault_settled bytes = settled 4096 0 bytes settling_bytes refl (omega arith)

pub faultless_whole : (bytes : List ℕ) → (fault bytes).number ≡ 0 → take settling_bytes bytes ≡ bytes
unfolding fault
faultless_whole bytes f = take_all settling_bytes bytes (omega (arith, faultless_short 4096 0 bytes refl f))

-- a refused file tells no more than its fault
scored_faulty : (bytes batch : List ℕ) → (fault bytes).number ≢ 0 → scored bytes batch ≡ record { number = (fault bytes).number; words = 0; line = (fault bytes).line; batch = batch }
unfolding scored scores_number first_of
scored_faulty bytes batch n = let k = ne_eqb (fault bytes).number 0 n in rw (k, k)

pub file_settled : FileSettled
unfolding FileSettled
file_settled bytes batch = go (eqb (fault bytes).number 0) refl
  where
    go : (t : Bool) → eqb (fault bytes).number 0 ≡ t → scored bytes batch ≡ scored (take settling_bytes bytes) batch
    go true t = ap (λ l. scored l batch) (sym (faultless_whole bytes (eqb-true (fault bytes).number 0 t)))
    go false t =
        let n = eqb-false (fault bytes).number 0 t in
        let e = fault_settled bytes in
        scored_faulty bytes batch n ∙ ap (λ f. record { number = f.number; words = 0; line = f.line; batch = batch }) e
        ∙ sym (scored_faulty (take settling_bytes bytes) batch (λ z. n (ap (λ f. f.number) e ∙ z)))

-- nor what is behind as many of the bytes as there are
pub part_settled : (bytes batch : List ℕ) → scored (take (min (length bytes) settling_bytes) bytes) batch ≡ scored bytes batch
unfolding FileSettled
part_settled bytes batch = go (leb settling_bytes (length bytes)) refl
  where
    go : (t : Bool) → leb settling_bytes (length bytes) ≡ t → scored (take (min (length bytes) settling_bytes) bytes) batch ≡ scored bytes batch
    go true e =
        let m : min (length bytes) settling_bytes ≡ settling_bytes = omega (arith, leb-true settling_bytes (length bytes) e) in
        ap (λ n. scored (take n bytes) batch) m ∙ sym (file_settled bytes batch)
    go false e =
        let l = leb-false settling_bytes (length bytes) e in
        ap (λ l. scored l batch) (take_all (min (length bytes) settling_bytes) bytes (omega (arith, l)))
