-- `wanted::up_to` meets its contract: a look at both ends, then a search by halving.
use Prim.Native.Nat.{◌-◌}
use Rattle.pair.proofs.Search.{Halved}
use Rattle.wanted.proofs.up_to.Given as goal

abbrev pub invariant-loop-low : goal.invariant-loop-low
invariant-loop-low l = Halved l.positions l.bound l.low l.high

abbrev pub decreases-loop-low : goal.decreases-loop-low
decreases-loop-low l = l.high - l.low
