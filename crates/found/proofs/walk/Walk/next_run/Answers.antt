-- `found::walk::Walk::next_run` meets its contract: where the new segment's blocks have no run, that of the old segment's.
use Rattle.std.proofs.Common.{refl}
use Rattle.std.proofs.lemmas.Option.{IfSome_then}
use Rattle.found.proofs.Walking.{next_old}
use Rattle.found.proofs.walk.Walk.next_run.Goals as goal

pub returns-clause-some : goal.returns-clause-some
returns-clause-some c =
    IfSome_then _ c.next_run-2.ensures.some (λ part run. next_old (c.in_default.ensures.none refl) (c.in_default.ensures.spent refl) run)
