-- `batch::untouched` meets its contract.
use Prim.Native.Nat.{ℕ, ◌/◌, ◌≤◌, ◌<◌}
use native.Mathlib.Omega.{arith}
use mathlib.Core.Path.{◌≡◌, sym, ap, ◌∙◌}
use mathlib.Core.List.{List, []}
use lib.ListN.{length, get_or}
use borrow.Author.Tests.{le-leb, lt-leb}
use Rattle.batch.specs.declared.reading.Record.{Record}
use Rattle.batch.specs.code.Records.{records_of, record_of}
use Rattle.batch.specs.code.Search.{update_of}
use Rattle.batch.specs.code.Untouched.{leaves_to, before_record, untouched}
use Rattle.batch.proofs.Cutting.{cut_before}
use Rattle.batch.proofs.Records.{length_records, array_of}
use Rattle.batch.proofs.untouched.Goals as goal
use Rattle.batch.proofs.untouched.Goals.{in-Some, in-None}

-- up to where the next record leaves the pairs, if there is one
left_by :
    (b : List ℕ) {rs : List (List ℕ)} (n x : ℕ) {u : Record} → rs ≡ records_of b → n < length rs → u ≡ record_of (get_or rs n []) →
    leaves_to x (update_of u) ≡ before_record b n x
unfolding before_record
left_by b n x r h e = rw (lt-leb (length b / 5) n (omega (arith, ap length r ∙ length_records b))) (ap (leaves_to x) (array_of b n r h e))

left_all : (b : List ℕ) {rs : List (List ℕ)} (n x : ℕ) → rs ≡ records_of b → length rs ≤ n → 4294967295 ≡ before_record b n x
unfolding before_record
left_all b n x r h = rw (le-leb (length b / 5) n (omega (arith, ap length r ∙ length_records b)))

pub returns-then-rank-cursor : goal.returns-then-rank-cursor
unfolding untouched
returns-then-rank-cursor c = rw (le-leb _ _ c.if-rank-cursor.true)

pub returns-then-is_empty : goal.returns-then-is_empty
unfolding untouched
returns-then-is_empty c =
    let to : c.match-get.to ≡ before_record c.args.batch.now c.args.cursor.passed.next c.args.rank = elim c.match-get.branch [
      | in-Some w ↦
          let h = w.in-Some.ensures.lookup.3 in
          w.to-is ∙ (w.leaves_to-to.ensures ∙ left_by _ _ _ c.records_of-records.ensures h.0 (w.of.ensures ∙ ap record_of (h.1 _)))
      | in-None w ↦ w.to-is ∙ left_all _ _ _ c.records_of-records.ensures w.in-None.ensures.lookup.3
    ] in
    rw (lt-leb _ _ c.if-rank-cursor.false, sym c.is_empty.ensures ∙ c.if-is_empty.true) to

pub returns : goal.returns
unfolding untouched
returns c =
    let to : c.match-get.to ≡ before_record c.args.batch.now c.args.cursor.passed.next c.args.rank = elim c.match-get.branch [
      | in-Some w ↦
          let h = w.in-Some.ensures.lookup.3 in
          w.to-is ∙ (w.leaves_to-to.ensures ∙ left_by _ _ _ c.records_of-records.ensures h.0 (w.of.ensures ∙ ap record_of (h.1 _)))
      | in-None w ↦ w.to-is ∙ left_all _ _ _ c.records_of-records.ensures w.in-None.ensures.lookup.3
    ] in
    let cut = c.of-2.ensures in
    rw (lt-leb _ _ c.if-rank-cursor.false, sym c.is_empty.ensures ∙ c.if-is_empty.false, ← to)
    (c.before-2.ensures ∙ (cut_before _ c.records_of-records.ensures _ _ _ cut.records cut.reaches _ _ _ ∙ rw c.of_rank.ensures))
