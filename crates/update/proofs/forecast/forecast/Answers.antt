-- `update::forecast::forecast` meets its contract: a refusal of the judge, a refusal of the batch, or what the run comes to. With no rounds there is
-- no table, else where they reach to is all in it.
use Prim.Native.Nat.{ℕ}
use mathlib.Core.Path.{sym, ◌∙◌}
use lib.ListN.{length-replicate}
use Rattle.batch.proofs.Filling.{rounds_most, filled_whole}
use Rattle.update.proofs.Agreement.{forecast_returned, forecast_sound}
use Rattle.update.proofs.forecast.forecast.Goals as goal

pub returns-in_err-check : goal.returns-in_err-check
returns-in_err-check c = forecast_returned _ _ _ _ c.from_residual.ensures.1 c.in_err-check.ensures.number

pub returns-then-fill_reaches-eq0 : goal.returns-then-fill_reaches-eq0
returns-then-fill_reaches-eq0 c = let o = c.in_ok-check.ensures in c.look_ahead.ensures ∙ rw (c.of.ensures.card, c.of.ensures.batch) (sym (forecast_sound _ _ o.sound o.in_order))

pub of-requires-2-clause-reaches_value : goal.of-requires-2-clause-reaches_value
of-requires-2-clause-reaches_value c =
    let f = c.fill_reaches-count in
    filled_whole _ _ f.ensures.0 f.ensures.1 (rw (length-replicate {A = ℕ} 4096 0) (rounds_most _ c.in_ok-check.ensures.in_order))

pub returns : goal.returns
returns c = let o = c.in_ok-check.ensures in c.look_ahead-2.ensures ∙ rw (c.of-2.ensures.card, c.of-2.ensures.batch) (sym (forecast_sound _ _ o.sound o.in_order))
