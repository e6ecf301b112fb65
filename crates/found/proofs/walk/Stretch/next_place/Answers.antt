-- `found::walk::Stretch::next_place` meets its contract.
use native.Mathlib.Omega.{arith}
use Rattle.found.proofs.Walking.{first_place}
use Rattle.found.proofs.walk.Stretch.next_place.Goals as goal

pub returns-clause-some : goal.returns-clause-some
returns-clause-some c = first_place c.of.ensures (omega (arith, c.in_ok-self.ensures)) c.place_on-self.ensures
