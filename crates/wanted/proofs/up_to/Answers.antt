-- `wanted::up_to` meets its contract: a look at both ends, then a search by halving.
use Prim.Native.Nat.{zero-le}
use native.Mathlib.Omega.{arith}
use Rattle.pair.proofs.Search.{halved_start, halved_down}
use Rattle.wanted.proofs.Wanting.{halved_found}
use borrow.Author.Rules.{rules}
use Rattle.wanted.proofs.up_to.Goals as goal
use Rattle.wanted.proofs.up_to.Goals.{then-len-eq0-via-then-len-eq0, then-len-eq0-via-else-len-eq0+then-bound-positions}

pub returns-then-len-eq0 : goal.returns-then-len-eq0
returns-then-len-eq0 c = elim c.then-len-eq0.branch [
  | then-len-eq0-via-then-len-eq0 w ↦ halved_found (halved_start _ _) (omega (arith, w.if-len-eq0.true))
  | then-len-eq0-via-else-len-eq0+then-bound-positions w ↦ halved_found (halved_down (halved_start _ _) zero-le (search rules) w.if-bound-positions.true) zero-le
]
