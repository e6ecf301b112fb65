-- A batch of a file has at most as many records as a batch may have.
use Prim.Native.Nat.{ℕ, suc, ◌+◌, ◌*◌, ◌≤◌, ◌<◌}
use native.Mathlib.Omega.{arith}
use mathlib.Core.Path.{◌≡◌, refl, ap, ◌∙◌}
use mathlib.Core.Bool.{Bool, true, false, cond}
use mathlib.Core.List.{List, [], ◌∷◌}
use borrow.Author.Tests.{le-ltb, leb-false, eqb-true, eqb-false}
use lib.ListN.{length, take, drop}
use lib.Seq.{sets-eq, take_at, length-sets}
use lib.Dec.{leb, eqb}
use Rattle.pair.specs.Tests.{first_of}
use Rattle.pair.proofs.FirstOf.{passed}
use Rattle.batch.specs.Batch.{record_words, records_most}
use Rattle.lines.specs.Lines.{lines, line_record, line_number, fault_from, fault, batch_of, scores_number, scored}
use Rattle.lines.proofs.Answers.{records_wide, records_many, batch_length}

pub numberless_few : (i : ℕ) (l : List ℕ) → line_number i l ≡ 0 → i < records_most
unfolding line_number
numberless_few i l e =
    let rest = (passed (eqb (length (line_record l)) 0) 11 ((leb records_most i, 13) ∷ []) e).1 in
    leb-false records_most i (passed (leb records_most i) 12 [] rest).0

lines_few : (i : ℕ) (ls : List (List ℕ)) → i ≤ records_most → (fault_from i ls).number ≡ 0 → i + length ls ≤ records_most
unfolding fault_from
lines_few i [] h e = omega arith
lines_few i (l ∷ ls) h e = go (lines_few (suc i) ls) (eqb (line_number i l) 0) refl e
  where
    go :
        (suc i ≤ records_most → (fault_from (suc i) ls).number ≡ 0 → suc i + length ls ≤ records_most) → (t : Bool) → eqb (line_number i l) 0 ≡ t →
        (cond t (fault_from (suc i) ls) (record { number = line_number i l; line = suc i })).number ≡ 0 → i + suc (length ls) ≤ records_most
    go ih true t e = omega (arith, ih (numberless_few i l (eqb-true (line_number i l) 0 t)) e)
    go ih false t e = absurd (eqb-false (line_number i l) 0 t e)

pub batch_few : (bytes : List ℕ) → (fault bytes).number ≡ 0 → length (batch_of bytes) ≤ record_words * records_most
unfolding fault
batch_few bytes e =
    let few = lines_few 0 (lines bytes) (omega arith) e in
    omega (arith, few, batch_length bytes (records_wide bytes e), records_many bytes)

-- so with room for the most only a line can earn a number
pub room_number : (bytes batch : List ℕ) → record_words * records_most ≤ length batch → (scored bytes batch).number ≡ (fault bytes).number
unfolding scored scores_number first_of
room_number bytes batch h = go (eqb (fault bytes).number 0) refl
  where
    go : (t : Bool) → eqb (fault bytes).number 0 ≡ t → (scored bytes batch).number ≡ (fault bytes).number
    go true t =
        let z = eqb-true (fault bytes).number 0 t in
        rw (z, le-ltb (length batch) (length (batch_of bytes)) (let few = batch_few bytes z in omega (arith, few, h)))
    go false t = rw (t, t)

-- and without one the batch stands in its words
pub read_words : (bytes batch : List ℕ) → (fault bytes).number ≡ 0 → length (batch_of bytes) ≤ length batch → take (scored bytes batch).words (scored bytes batch).batch ≡ batch_of bytes
unfolding scored scores_number first_of
read_words bytes batch z h =
    let b = batch_of bytes in
    rw (z, le-ltb (length batch) (length b) h) (ap (take (length b)) (sets-eq b batch 0 (omega (arith, h))) ∙ take_at b (drop (0 + length b) batch) (length b) refl)

pub read_many : (bytes batch : List ℕ) → (fault bytes).number ≡ 0 → length (batch_of bytes) ≤ length batch → ((scored bytes batch).words ≡ length (batch_of bytes)) × (length (scored bytes batch).batch ≡ length batch)
unfolding scored scores_number first_of
read_many bytes batch z h = rw (z, le-ltb (length batch) (length (batch_of bytes)) h) (refl, length-sets batch 0 (batch_of bytes))
