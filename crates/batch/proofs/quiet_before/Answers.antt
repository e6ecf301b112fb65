-- `batch::quiet_before` meets its contract.
use native.Mathlib.Omega.{arith}
use Prim.Native.Nat.{◌/◌}
use mathlib.Core.Path.{◌≡◌, sym, ap, ◌∙◌}
use lib.ListN.{length}
use borrow.Author.Tests.{le-leb, lt-leb}
use Rattle.pair.specs.Rank.{rank}
use Rattle.batch.specs.code.Records.{record_of}
use Rattle.batch.specs.code.Search.{update_of, record_at}
use Rattle.batch.specs.code.Untouched.{quiet_before}
use Rattle.batch.proofs.Records.{length_records, array_of}
use Rattle.batch.proofs.quiet_before.Goals as goal
use Rattle.batch.proofs.quiet_before.Goals.{then-not-is_empty-via-then-not-is_empty, then-not-is_empty-via-else-not-is_empty+then-rank-cursor}

pub returns-then-not-is_empty : goal.returns-then-not-is_empty
unfolding quiet_before
returns-then-not-is_empty c = elim c.then-not-is_empty.branch [
  | then-not-is_empty-via-then-not-is_empty w ↦ rw (sym c.is_empty.ensures ∙ w.if-not-is_empty.true)
  | then-not-is_empty-via-else-not-is_empty+then-rank-cursor w ↦ rw (sym c.is_empty.ensures ∙ w.if-not-is_empty.false, le-leb _ _ w.if-rank-cursor.true)
]

pub returns-in-Some : goal.returns-in-Some
unfolding quiet_before
returns-in-Some c =
    let h = c.in-Some.ensures.lookup.3 in
    let many = ap length c.records_of.ensures ∙ length_records c.args.batch.now in
    let here : update_of c.of.result ≡ update_of (record_at c.args.batch.now c.args.cursor.passed.next) =
    array_of _ _ c.records_of.ensures h.0 (c.of.ensures ∙ ap record_of (h.1 _)) in
    c.first_rank.ensures
    ∙ (ap (λ u. rank u.term u.from) here
    ∙ rw (sym c.is_empty.ensures ∙ c.if-not-is_empty.false, lt-leb _ _ c.if-rank-cursor.false, lt-leb (length c.args.batch.now / 5) c.args.cursor.passed.next (omega (arith, many))))

pub returns-in-None : goal.returns-in-None
unfolding quiet_before
returns-in-None c =
    let many = ap length c.records_of.ensures ∙ length_records c.args.batch.now in
    rw (sym c.is_empty.ensures ∙ c.if-not-is_empty.false, lt-leb _ _ c.if-rank-cursor.false, le-leb (length c.args.batch.now / 5) c.args.cursor.passed.next (omega (arith, many, c.in-None.ensures.lookup.3)))
