-- `found::map::Segment::mapped_to` meets its contract: a search by halving of a map that rises. The invariant, Searching: the count that is sought lies from low to high.
use Prim.Native.Nat.{◌-◌}
use Rattle.found.proofs.Mapping.{Searching}
use Rattle.found.proofs.map.Segment.mapped_to.Given as goal

abbrev pub invariant-loop-low : goal.invariant-loop-low
invariant-loop-low l = Searching l.card l.self.start l.self.len l.rank l.low l.high

abbrev pub decreases-loop-low : goal.decreases-loop-low
decreases-loop-low l = l.high - l.low
