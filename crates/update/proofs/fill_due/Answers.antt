-- `update::fill_due` meets its contract: with no rounds there is no table, else where they reach to is all in it.
use Prim.Native.Nat.{ℕ}
use lib.ListN.{length-replicate}
use Rattle.batch.proofs.Filling.{rounds_most, filled_whole}
use Rattle.update.proofs.fill_due.Goals as goal

pub of-requires-2-clause-reaches_value : goal.of-requires-2-clause-reaches_value
of-requires-2-clause-reaches_value c =
    let f = c.fill_reaches-count in
    filled_whole _ _ f.ensures.0 f.ensures.1 (rw (length-replicate {A = ℕ} 4096 0) (rounds_most _ c.requires.batch_value))
