-- What a file answers, refused or read.
use Prim.Native.Nat.{ℕ, suc, ◌+◌, ◌*◌, ◌/◌, ◌%◌, ◌≤◌, ◌<◌}
use native.Mathlib.Omega.{arith}
use mathlib.Core.Path.{◌≡◌, refl, sym, ap, ◌∙◌}
use mathlib.Core.Logic.{◌≢◌}
use mathlib.Core.Bool.{Bool, true, false, cond, ◌&&◌}
use mathlib.Core.List.{List, [], ◌∷◌, map, append-nil}
use borrow.Author.Tests.{lt-ltb, le-ltb, leb-true, leb-false, eq-eqb, ne_eqb, eqb-true, eqb-false}
use lib.ListN.{length, take, drop, length-map}
use lib.Seq.{sets, sets-eq, take_at}
use lib.Dec.{leb, eqb}
use Rattle.pair.specs.Tests.{same, first_of}
use Rattle.pair.proofs.FirstOf.{passed}
use Rattle.pair.proofs.Tests.{contradiction}
use Rattle.figures.specs.Figures.{worth, is_number}
use Rattle.batch.specs.Batch.{records_most}
use Rattle.sort.specs.Sort.{records_from, records, laid, key_at, sorted, sorted_words, sortable, sort}
use Rattle.sort.proofs.Answers.{refused, done}
use Rattle.sort.proofs.Records.{Wide, laid_length, records_laid, sorted_wide, sorted_length}
use Rattle.std.specs.Result.{IsErrAnd}
use Rattle.std.proofs.Common.{Result, Ok, Err, subst}
use Rattle.refusal.specs.declared.Refusal.TheVariants.{TooFewWords}
use Rattle.refusal.proofs.Numbers.{number_positive}
use Rattle.lines.specs.declared.Fault.{Fault}
use Rattle.lines.specs.Lines.{letter_a, letter_r, lines, fields, record_of, line_record, line_number, fault_from, fault, line_records, batch_of, scores_number, scored}
use Rattle.lines.specs.code.Gathering.{HasFault, Gathers, answered}
use Rattle.lines.proofs.Numbered.{numbered_length, numbered_wide}

-- a line says four words
four : (s : Bool) (r : List ℕ) → length r ≡ 4 → length (cond s r []) ≢ 0 → length (cond s r []) ≡ 4
four true r e n = e
four false r e n = absurd (n refl)

record_four : (fs : List (List ℕ)) → length (record_of fs) ≢ 0 → length (record_of fs) ≡ 4
unfolding record_of
record_four [] n = absurd (n refl)
record_four (k ∷ []) n = absurd (n refl)
record_four (k ∷ t ∷ []) n = absurd (n refl)
record_four (k ∷ t ∷ p ∷ []) n = four (same k (letter_a ∷ []) && is_number t && is_number p) (1 ∷ worth 0 t ∷ worth 0 p ∷ worth 0 p ∷ []) refl n
record_four (k ∷ t ∷ a ∷ z ∷ []) n = four (same k (letter_r ∷ []) && is_number t && is_number a && is_number z) (2 ∷ worth 0 t ∷ worth 0 a ∷ worth 0 z ∷ []) refl n
record_four (k ∷ t ∷ a ∷ z ∷ f ∷ fs) n = absurd (n refl)

-- a line without a number has a record
numberless : (i : ℕ) (l : List ℕ) → line_number i l ≡ 0 → length (line_record l) ≡ 4
unfolding line_number line_record
numberless i l e = record_four (fields l) (λ z. eqb-false (length (record_of (fields l))) 0 (passed (eqb (length (record_of (fields l))) 0) 11 _ e).0 z)

pub lines_wide : (i : ℕ) (ls : List (List ℕ)) → (fault_from i ls).number ≡ 0 → Wide 4 (map line_record ls)
unfolding fault_from
lines_wide i [] e = tt
lines_wide i (l ∷ ls) e = go (lines_wide (suc i) ls) (eqb (line_number i l) 0) refl e
  where
    go :
        ((fault_from (suc i) ls).number ≡ 0 → Wide 4 (map line_record ls)) → (t : Bool) → eqb (line_number i l) 0 ≡ t →
        (cond t (fault_from (suc i) ls) (record { number = line_number i l; line = suc i })).number ≡ 0 →
        (length (line_record l) ≡ 4) × Wide 4 (map line_record ls)
    go ih true t e = (numberless i l (eqb-true (line_number i l) 0 t), ih e)
    go ih false t e = absurd (eqb-false (line_number i l) 0 t e)

pub records_wide : (bytes : List ℕ) → (fault bytes).number ≡ 0 → Wide 5 (line_records bytes)
unfolding fault line_records
records_wide bytes e = numbered_wide 1 (map line_record (lines bytes)) (lines_wide 0 (lines bytes) e)

-- the records of the lines end to end, sorted, are the batch
sorted_batch : (bytes : List ℕ) → Wide 5 (line_records bytes) → sorted_words 5 1 (laid (line_records bytes)) ≡ batch_of bytes
unfolding sorted_words batch_of records
sorted_batch bytes w =
    let rs = line_records bytes in
    let long = laid_length 5 rs w in
    let many : length (laid rs) / 5 ≡ length rs = omega (arith, long) in
    rw many (ap (λ l. laid (sorted (key_at 1) l)) (ap (λ l. records_from 5 l 0 (length rs)) (sym (append-nil (laid rs))) ∙ records_laid 5 rs [] w))

pub batch_length : (bytes : List ℕ) → Wide 5 (line_records bytes) → length (batch_of bytes) ≡ 5 * length (line_records bytes)
unfolding batch_of
batch_length bytes w =
    let rs = line_records bytes in
    laid_length 5 (sorted (key_at 1) rs) (sorted_wide (key_at 1) 5 rs w) ∙ ap (λ n. 5 * n) (sorted_length (key_at 1) rs)

-- without a number there is no line
quiet_from : (i : ℕ) (ls : List (List ℕ)) → (fault_from i ls).number ≡ 0 → (fault_from i ls).line ≡ 0
unfolding fault_from
quiet_from i [] e = refl
quiet_from i (l ∷ ls) e = go (quiet_from (suc i) ls) (eqb (line_number i l) 0) refl e
  where
    go :
        ((fault_from (suc i) ls).number ≡ 0 → (fault_from (suc i) ls).line ≡ 0) → (t : Bool) → eqb (line_number i l) 0 ≡ t →
        (cond t (fault_from (suc i) ls) (record { number = line_number i l; line = suc i })).number ≡ 0 →
        (cond t (fault_from (suc i) ls) (record { number = line_number i l; line = suc i })).line ≡ 0
    go ih true t e = ih e
    go ih false t e = absurd (eqb-false (line_number i l) 0 t e)

quiet_none : (bytes : List ℕ) → (fault bytes).number ≡ 0 → (fault bytes).line ≡ 0
unfolding fault
quiet_none bytes e = quiet_from 0 (lines bytes) e

-- a number of a line comes before that of the lent words
faulty_answered : (bytes batch : List ℕ) (f : Fault) → HasFault bytes f → answered (Err f) batch ≡ scored bytes batch
unfolding scored scores_number first_of
faulty_answered bytes batch f h =
    let k : eqb (fault bytes).number 0 ≡ false = ne_eqb (fault bytes).number 0 (λ z. omega (arith, h.of_number, z, number_positive f.refusal)) in
    rw (k, k, ← h.of_number, ← h.of_line)

module _ (bytes batch : List ℕ) (none : (fault bytes).number ≡ 0) where
  -- too few words are lent
  answered_short : length batch < length (batch_of bytes) → answered (Err (record { refusal = TooFewWords; line = 0 })) batch ≡ scored bytes batch
  unfolding scored scores_number first_of
  answered_short h = rw (none, lt-ltb (length batch) (length (batch_of bytes)) h, quiet_none bytes none)

  -- the batch stands in the first of them
  answered_read : length (batch_of bytes) ≤ length batch → answered (Ok (length (batch_of bytes))) (sets batch 0 (batch_of bytes)) ≡ scored bytes batch
  unfolding scored scores_number first_of
  answered_read h = rw (none, le-ltb (length batch) (length (batch_of bytes)) h)

-- the records stand in the first words of their memory
first_words : (rs : List (List ℕ)) (l : List ℕ) (n : ℕ) → length (laid rs) ≡ n → n ≤ length l → take n (sets l 0 (laid rs)) ≡ laid rs
first_words rs l n e h = ap (take n) (sets-eq (laid rs) l 0 (omega (arith, e, h))) ∙ take_at (laid rs) (drop (0 + length (laid rs)) l) n e

pub records_many : (bytes : List ℕ) → length (line_records bytes) ≡ length (lines bytes)
unfolding line_records
records_many bytes = numbered_length 1 (map line_record (lines bytes)) ∙ length-map (lines bytes) line_record

-- whole records of five words with their key at word 1 are sorted where the other memory is as long
whole_sortable : (ws batch : List ℕ) (n : ℕ) → length ws ≡ 5 * n → sortable 5 1 ws batch ≡ leb (length ws) (length batch)
unfolding sortable
whole_sortable ws batch n e = let z : length ws % 5 ≡ 0 = omega (arith, e) in rw (eq-eqb (length ws % 5) 0 z)

sort_done :
    (ws batch : List ℕ) (n : ℕ) → length ws ≡ 5 * n → true ≡ (sort 5 1 ws batch).done →
    (length ws ≤ length batch) × ((sort 5 1 ws batch).work ≡ sets batch 0 (sorted_words 5 1 ws))
sort_done ws batch n e d = go (sortable 5 1 ws batch) refl
  where
    go : (t : Bool) → sortable 5 1 ws batch ≡ t → (length ws ≤ length batch) × ((sort 5 1 ws batch).work ≡ sets batch 0 (sorted_words 5 1 ws))
    go true k = (leb-true (length ws) (length batch) (sym (whole_sortable ws batch n e) ∙ k), sym (done 5 1 ws batch k).1.1)
    go false k = contradiction (sort 5 1 ws batch).done (sym d) (sym (refused 5 1 ws batch k).0)

sort_refused :
    (ws batch : List ℕ) (n : ℕ) → length ws ≡ 5 * n → false ≡ (sort 5 1 ws batch).done → (length batch < length ws) × ((sort 5 1 ws batch).work ≡ batch)
sort_refused ws batch n e d = go (sortable 5 1 ws batch) refl
  where
    go : (t : Bool) → sortable 5 1 ws batch ≡ t → (length batch < length ws) × ((sort 5 1 ws batch).work ≡ batch)
    go true k = contradiction (sort 5 1 ws batch).done (sym (done 5 1 ws batch k).0) (sym d)
    go false k = (leb-false (length ws) (length batch) (sym (whole_sortable ws batch n e) ∙ k), sym (refused 5 1 ws batch k).1.1)

-- what the sort answers of the records gathered
module _ (bytes batch l : List ℕ) {count : ℕ} {now : List ℕ} (a : Gathers bytes l count now) (room : length l ≡ 5 * records_most) where
  abbrev ws : List ℕ
  ws = take (5 * count) now

  wide : Wide 5 (line_records bytes)
  wide = records_wide bytes a.faultless

  long : length (laid (line_records bytes)) ≡ 5 * count
  long = laid_length 5 (line_records bytes) wide ∙ ap (λ n. 5 * n) (records_many bytes ∙ sym a.many)

  words_laid : ws ≡ laid (line_records bytes)
  words_laid = ap (take (5 * count)) a.stand ∙ first_words (line_records bytes) l (5 * count) long (omega (arith, room, a.few))

  words_length : length ws ≡ 5 * count
  words_length = ap length words_laid ∙ long

  batch_long : length (batch_of bytes) ≡ 5 * count
  batch_long = batch_length bytes wide ∙ ap (λ n. 5 * n) (records_many bytes ∙ sym a.many)

  pub answered_unsorted :
      {after : List ℕ} → false ≡ (sort 5 1 ws batch).done → after ≡ (sort 5 1 ws batch).work →
      answered (Err (record { refusal = TooFewWords; line = 0 })) after ≡ scored bytes batch
  answered_unsorted d e =
      let r = sort_refused ws batch count words_length d in
      rw (e ∙ r.1) (answered_short bytes batch a.faultless (omega (arith, r.0, words_length, batch_long)))

  pub answered_sorted :
      {after : List ℕ} → true ≡ (sort 5 1 ws batch).done → after ≡ (sort 5 1 ws batch).work → answered (Ok (5 * count)) after ≡ scored bytes batch
  answered_sorted {after = after} d e =
      let r = sort_done ws batch count words_length d in
      let work : after ≡ sets batch 0 (batch_of bytes) = e ∙ r.1 ∙ ap (sets batch 0) (ap (sorted_words 5 1) words_laid ∙ sorted_batch bytes wide) in
      rw (work, ← batch_long) (answered_read bytes batch a.faultless (omega (arith, r.0, words_length, batch_long)))

-- a fault of the lines is handed on
pub faulty_returned : (bytes batch : List ℕ) {f : Fault} (r : Result ℕ Fault) → IsErrAnd r (λ x. x ≡ f) → HasFault bytes f → answered r batch ≡ scored bytes batch
faulty_returned bytes batch (Ok n) k h = absurd k
faulty_returned bytes batch (Err x) k h = faulty_answered bytes batch x (subst (HasFault bytes) (sym k) h)
