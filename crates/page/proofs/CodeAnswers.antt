-- What the code answers, refused or not.
use Prim.Native.Nat.{ℕ, ◌*◌, ◌≤◌, ◌<◌}
use native.Mathlib.Omega.{arith}
use Rattle.std.specs.Prelude.{Result}
use Rattle.std.specs.Result.{IsErrAnd, result_unwrap_or}
use Rattle.std.specs.Int.{div_ceil}
use Rattle.std.proofs.lemmas.Result.{err_from_is_err_and}
use mathlib.Core.Path.{◌≡◌, refl, sym, ap, ◌∙◌}
use mathlib.Core.Bool.{true, false}
use mathlib.Core.List.{List}
use borrow.Author.Tests.{eq-eqb, ne_eqb, lt-ltb, le-ltb}
use lib.ListN.{length}
use lib.Dec.{eqb}
use Rattle.refusal.specs.declared.Refusal.{Refusal}
use Rattle.refusal.specs.Refusal.{number, number_of}
use Rattle.refusal.proofs.Numbers.{number_positive, number_returned}
use Rattle.pair.specs.Rank.{word_limit}
use Rattle.pair.specs.Tests.{first_of}
use Rattle.found.specs.Found.{found, question_number}
use Rattle.page.specs.Page.{line_count, page, page_number, printed, PrintedOff}
use Rattle.page.specs.code.Putting.{LinesPut}
use Rattle.page.proofs.ReadBack.{page_length}
use Rattle.page.proofs.Printing.{found_words, printed_done, printed_refused}

module _ (c : List ℕ) (t a z : ℕ) (memory : List ℕ) where
  -- refused for its question
  pub answered_refused :
      (refusal : Refusal) (result : Result ℕ Refusal) → IsErrAnd result (λ r. r ≡ refusal) → number refusal ≡ question_number c t a z →
      PrintedOff (number_of result) (result_unwrap_or result 0) memory (printed c t a z memory)
  unfolding page_number first_of
  answered_refused refusal result h e =
      let some : question_number c t a z ≡ 0 → ⊥ = λ q. let l = number_positive refusal in omega (arith, e, q) in
      let no : eqb (question_number c t a z) 0 ≡ false = ne_eqb (question_number c t a z) 0 some in
      let k : page_number c t a z memory ≡ question_number c t a z = rw no refl in
      rw (printed_refused c t a z memory (rw k no))
      record {
        of_number = number_returned result refusal h ∙ e ∙ sym k;
        of_lines = ap (λ r. result_unwrap_or r 0) (err_from_is_err_and result h).1;
        of_memory = refl;
      }

  module _ {count lines : ℕ} (asked : 0 ≡ question_number c t a z) (counted : count ≡ length (found c t a z)) (ceil : lines ≡ div_ceil count 5) (ht : t < word_limit) where
    question : eqb (question_number c t a z) 0 ≡ true
    question = eq-eqb (question_number c t a z) 0 (sym asked)

    lines_same : lines ≡ line_count (found c t a z)
    unfolding line_count
    lines_same = omega (arith, ceil, counted)

    size : length (page t (found c t a z)) ≡ 66 * lines
    size = page_length t (found c t a z) ht (found_words c t a z) ∙ ap (λ n. 66 * n) (sym lines_same)

    -- for its memory
    pub answered_short : length memory < 66 * lines → PrintedOff 11 0 memory (printed c t a z memory)
    unfolding page_number first_of
    answered_short l =
        let k : page_number c t a z memory ≡ 11 = rw (question, lt-ltb (length memory) (length (page t (found c t a z))) (rw size l)) in
        rw (printed_refused c t a z memory (rw k refl)) record { of_number = sym k; of_lines = refl; of_memory = refl }

    -- and not refused
    pub answered_lines :
        66 * lines ≤ length memory → {left after : List ℕ} → left ≡ found c t a z → LinesPut t lines left memory after →
        PrintedOff 0 lines after (printed c t a z memory)
    unfolding page_number first_of page
    answered_lines l {left} {after} e w =
        let k : page_number c t a z memory ≡ 0 = rw (question, le-ltb (length memory) (length (page t (found c t a z))) (rw size l)) in
        rw (printed_done c t a z memory k)
        record { of_number = refl; of_lines = lines_same; of_memory = rw (← lines_same) (rw e at (w.put (rw e (found_words c t a z)))) }
