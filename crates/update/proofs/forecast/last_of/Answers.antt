-- `update::forecast::last_of` meets its contract.
use native.Mathlib.Omega.{arith}
use mathlib.Core.Path.{sym}
use Rattle.pair.specs.Rising.{last}
use Rattle.update.specs.code.Merge.{run_at}
use Rattle.update.proofs.Running.{last_run}
use Rattle.update.proofs.forecast.last_of.Goals as goal

pub returns-then-more-eq0 : goal.returns-then-more-eq0
unfolding run_at last
returns-then-more-eq0 c = rw c.if-more-eq0.true

pub returns : goal.returns
returns c =
    rw (c.rank.ensures, c.of_rank.ensures) (sym (last_run _ _ _ _ _ (omega (arith, c.if-more-eq0.false))))
