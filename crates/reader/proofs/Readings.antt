-- A reading: what a reader yields goes to the answer words, one posting after another.
use Prim.Native.Nat.{ℕ, zero, suc, ◌+◌, ◌≤◌, ◌<◌}
use native.Mathlib.Numerals.{add-one}
use native.Mathlib.Omega.{arith}
use Rattle.std.specs.Prelude.{Option, Some, None, slice_get}
use Rattle.std.specs.Option.{option_map}
use Rattle.std.proofs.lemmas.List.{set-get_or}
use mathlib.Core.Path.{◌≡◌, refl, sym, ap, ◌∙◌}
use mathlib.Core.Bool.{false}
use mathlib.Core.List.{List, [], ◌∷◌, map}
use lib.ListN.{length, take, drop, get_or, set, length-take, length-drop}
use lib.Seq.{sets, take_all, take-nil, length-sets, drop-cons}
use lib.Dec.{eqb}
use Rattle.pair.proofs.Lists.{sets_next}
use Rattle.std.specs.Prelude.{Result}
use Rattle.std.specs.Result.{IsErrAnd, result_unwrap_or}
use Rattle.std.proofs.lemmas.Result.{err_from_is_err_and}
use borrow.Author.Tests.{ne_eqb}
use Rattle.refusal.specs.declared.Refusal.{Refusal}
use Rattle.refusal.specs.Refusal.{number, number_of}
use Rattle.refusal.proofs.Numbers.{number_positive, number_returned}
use Rattle.found.specs.Found.{found, question_number}
use Rattle.reader.proofs.Cursors.{all_found}
use Rattle.reader.specs.Reader.{all_yielded, posting, ended, yielded, read, yield_of, ReadOff}

-- the yield after n others, from all that is yielded
nth_yield : (ps : List ℕ) (n : ℕ) (y : Option ℕ) → option_map (λ p. p) y ≡ slice_get ps n → yield_of y ≡ get_or (map posting ps) n ended
nth_yield [] n None e = refl
nth_yield [] n (Some p) e = absurd (let z : Some p ≡ None = e in cc)
nth_yield (q ∷ ps) zero None e = absurd (let z : None ≡ Some q = e in cc)
nth_yield (q ∷ ps) zero (Some p) e = let z : Some p ≡ Some q = e in ap yield_of z
nth_yield (q ∷ ps) (suc n) y e = nth_yield ps n y e

pub yielded_after : (c : List ℕ) (t a z n : ℕ) (y : Option ℕ) → option_map (λ p. p) y ≡ slice_get (all_yielded c t a z) n → yield_of y ≡ yielded c t a z n
unfolding yielded
yielded_after c t a z n y e = nth_yield (all_yielded c t a z) n y e

-- a refused reading reads none and writes nothing
pub read_refused :
    (c : List ℕ) (t a z : ℕ) (answer : List ℕ) → eqb (question_number c t a z) 0 ≡ false →
    read c t a z answer ≡ record { number = question_number c t a z; count = 0; answer = answer }
unfolding read all_yielded
read_refused c t a z answer e = rw (e, take-nil (length answer))

pub refused_reading :
    (c : List ℕ) (t a z : ℕ) (answer : List ℕ) (refusal : Refusal) (result : Result ℕ Refusal) → IsErrAnd result (λ r. r ≡ refusal) →
    number refusal ≡ question_number c t a z → ReadOff (number_of result) (result_unwrap_or result 0) answer (read c t a z answer)
refused_reading c t a z answer refusal result h e =
    let p = err_from_is_err_and result h in
    let some : question_number c t a z ≡ 0 → ⊥ = λ q. let l = number_positive refusal in omega (arith, e, q) in
    rw (read_refused c t a z answer (ne_eqb (question_number c t a z) 0 some))
    record {
      of_number = number_returned result refusal h ∙ e;
      of_count = ap (λ r. result_unwrap_or r 0) p.1;
      of_answer = refl;
    }

-- the first i of all postings are in the answer words, and the others are left
pub record Taking (all left l now : List ℕ) (i : ℕ) : Type 0 where
  pub some : i ≤ length all
  pub rest : left ≡ drop i all
  pub same : now ≡ sets l 0 (take i all)

pub taking_length : {all left l now : List ℕ} {i : ℕ} → Taking all left l now i → length now ≡ length l
taking_length {all} {left} {l} {now} {i} g = ap length g.same ∙ length-sets l 0 (take i all)

pub taking_turn : {all left then l now : List ℕ} {i p : ℕ} → Taking all left l now i → left ≡ p ∷ then → Taking all then l (set now i p) (i + 1)
taking_turn {all} {left} {then} {l} {now} {i} {p} g e =
    let more : length (drop i all) ≡ suc (length then) = ap length (sym g.rest ∙ e) in
    let some : i < length all = omega (arith, more, length-drop i all) in
    let heads : get_or all i 0 ∷ drop (suc i) all ≡ p ∷ then = sym (drop-cons all i 0 some) ∙ sym g.rest ∙ e in
    let head : p ≡ get_or all i 0 = cc in
    let tail : then ≡ drop (suc i) all = cc in
    record {
      some = omega (arith, some);
      rest = rw (add-one i) tail;
      same = let from_0 : 0 + i ≡ i = omega arith in rw (g.same, head) (rw from_0 at (sets_next all l 0 i some));
    }

pub taking_full :
    (c : List ℕ) (t a z : ℕ) {left l now : List ℕ} {i : ℕ} → Taking (found c t a z) left l now i → i ≡ length l → 0 ≡ question_number c t a z →
    ReadOff 0 (length now) now (read c t a z l)
unfolding read
taking_full c t a z g e m =
    rw (sym (all_found c t a z m))
    record {
      of_number = m;
      of_count = rw length-take (omega (arith, g.some, taking_length g));
      of_answer = rw (sym e) g.same;
    }

pub taking_end :
    (c : List ℕ) (t a z : ℕ) {left l now : List ℕ} {i : ℕ} → Taking (found c t a z) left l now i → left ≡ [] → i ≤ length l → 0 ≡ question_number c t a z →
    ReadOff 0 i (set now i (get_or now i 0)) (read c t a z l)
unfolding read
taking_end c t a z {left} {l} {now} {i} g none h m =
    let all = found c t a z in
    let past : length all ≤ i = omega (arith, length-drop i all, ap length (sym none ∙ g.rest)) in
    rw (sym (all_found c t a z m))
    record {
      of_number = m;
      of_count = rw length-take (omega (arith, g.some, past));
      of_answer = set-get_or now i 0 ∙ g.same ∙ rw (take_all i all past, take_all (length l) all (omega (arith, past)));
    }
