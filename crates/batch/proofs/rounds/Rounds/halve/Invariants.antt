-- `batch::rounds::Rounds::halve` meets its contract. The invariant of its loop: what is sought from low to high is what is asked for.
use Prim.Native.Nat.{◌-◌}
use lib.ListN.{length}
use Rattle.batch.specs.code.Records.{updates_of}
use Rattle.batch.specs.code.Rounds.{starts}
use Rattle.batch.proofs.Annulling.{Halving}
use Rattle.batch.proofs.rounds.Rounds.halve.Given as goal

abbrev pub invariant-loop-low : goal.invariant-loop-low
invariant-loop-low l = Halving (starts (updates_of l.fn.self.records.now)) l.fn.position (length l.fn.self.records.now) l.low l.high

abbrev pub decreases-loop-low : goal.decreases-loop-low
decreases-loop-low l = l.high - l.low
