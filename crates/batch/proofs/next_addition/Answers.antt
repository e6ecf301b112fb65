-- `batch::next_addition` meets its contract. The invariant of its loop: the search from the record in hand on finds what is asked for.
use Prim.Native.Nat.{max}
use native.Mathlib.Omega.{arith}
use lib.ListN.{length}
use mathlib.Core.Path.{◌≡◌, sym, ◌∙◌}
use Rattle.batch.proofs.Records.{array_in, array_beyond}
use Rattle.batch.proofs.Search.{seeks_turn, seeks_found, seeks_end}
use Rattle.batch.proofs.next_addition.Goals as goal

pub returns-then-adds_above : goal.returns-then-adds_above
returns-then-adds_above c =
    rw c.first_rank.ensures
    (sym (c.loop-n.invariant.1 ∙ seeks_found _ _ _ _ (array_in _ _ c.records_of-records.ensures c.loop-n-test.true c.of-u.ensures) (sym c.adds_above.ensures ∙ c.if-adds_above.true)))

pub loop-n-preserved : goal.loop-n-preserved
loop-n-preserved c =
    (omega arith, c.loop-n.invariant.1 ∙ seeks_turn _ _ _ _ (array_in _ _ c.records_of-records.ensures c.loop-n-test.true c.of-u.ensures) (sym c.adds_above.ensures ∙ c.if-adds_above.false))

pub returns : goal.returns
returns c =
    let last : max c.args.from (length c.records_of-records.result.now) ≡ c.loop-n.n = omega arith in
    rw (c.max.ensures, last) (sym (c.loop-n.invariant.1 ∙ seeks_end _ _ _ (array_beyond _ _ c.records_of-records.ensures c.loop-n-test.false)))
