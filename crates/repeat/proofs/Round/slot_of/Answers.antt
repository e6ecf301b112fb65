-- `repeat::Round::slot_of` meets its contract.
use mathlib.Core.Path.{refl}
use Rattle.repeat.specs.code.Rounds.{slot_of}
use Rattle.repeat.proofs.Rounds.{slot_low}
use Rattle.repeat.proofs.Round.slot_of.Goals as goal

pub returns : goal.returns
unfolding slot_of
returns c =
    record { value = refl; upper_bound = slot_low c.args.self.bits c.args.x }
