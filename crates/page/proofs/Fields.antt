-- The fields of a line, put one after another from what a reader yields.
use Prim.Native.Nat.{ℕ, zero, suc, ◌+◌, ◌-◌, ◌*◌, zero-le}
use native.Mathlib.Numerals.{add-one}
use native.Mathlib.Omega.{arith}
use Rattle.std.specs.Prelude.{Option, Some, None, MatchOption}
use mathlib.Core.Path.{◌≡◌, sym, ap, ◌∙◌}
use mathlib.Core.List.{List, [], ◌∷◌}
use borrow.Rule.Slice.PartMut.{mid_of, put_mid}
use Rattle.std.proofs.lemmas.List.{length-take-le}
use borrow.Author.Tests.{lt-ltb, le-ltb}
use lib.ListN.{length, drop, set, length-drop, length-set}
use lib.Seq.{sets}
use lib.Dec.{ltb}
use Rattle.pair.specs.Rank.{Words}
use Rattle.pair.proofs.Tests.{ltb_agree}
use Rattle.pair.proofs.Lists.{sets_behind}
use Rattle.page.specs.Figures.{blank, column}
use Rattle.page.specs.Page.{joined, field}
use Rattle.page.specs.code.Putting.{field_of, fields_from, FieldsPut}
use Rattle.page.proofs.Joining.{joined_length}
use Rattle.page.proofs.Parts.{part_put, sets_all}
use Rattle.page.proofs.ReadBack.{field_length}

-- a field of a posting: a blank, and its columns behind it
pub posting_put :
    (f part : List ℕ) {p : ℕ} {y : Option ℕ} → length f ≡ 11 → length part ≡ length (mid_of 1 (length (set f 0 blank) - 1) (set f 0 blank)) → y ≡ Some p →
    part ≡ column p → put_mid 1 (length (set f 0 blank) - 1) (set f 0 blank) part ≡ field_of y
unfolding field_of
posting_put f part {p} {y} long e is same =
    let l = set f 0 blank in
    let kept : length l ≡ 11 = length-set f 0 blank ∙ long in
    let put : put_mid 1 (length l - 1) l part ≡ sets l 1 part = part_put l part 1 (length l) (omega (arith, kept)) (omega arith) e in
    let width : length part ≡ 10 = e ∙ length-take-le (length l - 1) (drop 1 l) (omega (arith, length-drop 1 l)) ∙ omega (arith, kept) in
    rw (is, ← same) (put ∙ sets_all f (blank ∷ part) (omega (arith, width, long)))

-- a reader yields the first of what is left, or the end where nothing is
abbrev First : List ℕ → Option ℕ → List ℕ → Type 0
First left y then = MatchOption y ((left ≡ []) × (then ≡ [])) (λ p. left ≡ p ∷ then)

-- it is the field of the posting after n others, and the others are left behind it
field_of_first :
    (ps : List ℕ) (n : ℕ) {left then : List ℕ} (y : Option ℕ) → First left y then → left ≡ drop n ps →
    (field_of y ≡ field ps n) × (then ≡ drop (n + 1) ps)
unfolding field_of field
field_of_first [] n None f e = (rw (le-ltb n 0 zero-le), rw (add-one n) f.1)
field_of_first [] n (Some p) f e = absurd (let none = ap length (sym f ∙ e) in omega (arith, none, length-drop {A = ℕ} n []))
field_of_first (q ∷ ps) zero None f e = absurd (let none : 0 ≡ suc (length ps) = ap length (sym f.0 ∙ e) in omega arith)
field_of_first (q ∷ ps) zero (Some p) f e =
    let same = sym f ∙ e in
    let head : p ≡ q = cc in
    (rw (lt-ltb 0 (suc (length ps)) (omega arith), head), cc)
field_of_first (q ∷ ps) (suc n) y f e =
    let same : ltb (suc n) (suc (length ps)) ≡ ltb n (length ps) = ltb_agree (suc n) (suc (length ps)) n (length ps) (λ h. omega arith) (λ h. omega arith) in
    let next : suc n + 1 ≡ suc (n + 1) = omega arith in
    rw (same, next) (field_of_first ps n y f e)

-- the fields of j postings stand first, and the others are left
pub record Fielding (left l then now : List ℕ) (j : ℕ) : Type 0 where
  pub put : (ps : List ℕ) (n : ℕ) → Words ps → left ≡ drop n ps → now ≡ sets l 0 (fields_from ps n j)
  pub rest : (ps : List ℕ) (n : ℕ) → left ≡ drop n ps → then ≡ drop (n + j) ps

fields_width : (ps : List ℕ) (n j : ℕ) → Words ps → length (fields_from ps n j) ≡ 11 * j
fields_width ps n j w = joined_length (λ i. field ps (n + i)) 11 j (λ i k. field_length ps (n + i) w)

pub fielding_turn :
    {left l then now part after : List ℕ} {j : ℕ} (y : Option ℕ) {rest : List ℕ} → Fielding left l then now j → First then y rest →
    part ≡ field_of y → after ≡ sets now (11 * j) part → Fielding left l rest after (j + 1)
unfolding joined
fielding_turn {left} {l} {then} {now} {part} {after} {j} y {rest} g f p e =
    record {
      put = λ ps n w q.
          let shows = field_of_first ps (n + j) y f (g.rest ps n q) in
          let from : 0 + 11 * j ≡ 11 * j = omega arith in
          rw (add-one j) (sets_behind l 0 (fields_from ps n j) (field ps (n + j)) (g.put ps n w q) (fields_width ps n j w) (rw (from, sym shows.0, sym p) e));
      rest = λ ps n q.
          let same : n + j + 1 ≡ n + (j + 1) = omega arith in
          rw same at (field_of_first ps (n + j) y f (g.rest ps n q)).1;
    }

pub fielding_end : {left l then now : List ℕ} → Fielding left l then now 5 → length l ≡ 55 → FieldsPut left then now
fielding_end {l = l} g e =
    record { put = λ ps n w q. g.put ps n w q ∙ sets_all l (fields_from ps n 5) (omega (arith, e, fields_width ps n 5 w)); rest = g.rest }
