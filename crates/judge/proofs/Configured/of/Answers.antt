-- `Configured::of` meets its contract: a configuration in order is as its words say.
use native.Mathlib.Omega.{arith}
use mathlib.Core.Path.{sym}
use Rattle.judge.proofs.Judged.{configured}
use Rattle.judge.proofs.Configured.of.Goals as goal

pub invariant_of-result : goal.invariant_of-result
invariant_of-result c =
    record { ordered = configured (sym c.in_ok-check_configuration.ensures) c.of.ensures; words = λ i. omega (arith, c.type_inv.card i) }
