-- `update::merge::along` meets its contract.
use native.Mathlib.Omega.{arith}
use mathlib.Core.Path.{sym}
use Rattle.update.specs.code.Merge.{place_along}
use Rattle.update.proofs.Running.{place_along_some}
use Rattle.update.proofs.merge.Pass.along.Goals as goal

pub returns-then-n-eq0 : goal.returns-then-n-eq0
unfolding place_along
returns-then-n-eq0 c = rw c.if-n-eq0.true

pub returns : goal.returns
returns c = rw c.along-old.ensures (sym (place_along_some _ _ _ (omega (arith, c.if-n-eq0.false))))
