-- `scores::run_pass` meets its contract. The invariant of its loop, Passing: so many steps are made, and the others decide.
use Prim.Native.Nat.{◌-◌}
use Rattle.scores.specs.Outcome.{steps_most}
use Rattle.scores.proofs.Passing.{Passing}
use Rattle.scores.proofs.run_pass.Given as goal

abbrev pub invariant-loop-written : goal.invariant-loop-written
invariant-loop-written l = Passing (steps_most l.initial.card l.batch) l.initial.card l.batch l.card l.steps

abbrev pub decreases-loop-written : goal.decreases-loop-written
decreases-loop-written l = steps_most l.initial.card l.batch - l.steps
