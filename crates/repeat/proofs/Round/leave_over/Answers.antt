-- `repeat::Round::leave_over` meets its contract.
use mathlib.Core.Path.{refl}
use Rattle.repeat.proofs.Rounds.{empty_zeros}
use Rattle.repeat.proofs.Round.leave_over.Goals as goal

pub fill_slots-requires : goal.fill_slots-requires
fill_slots-requires c =
    record { empty = empty_zeros 4096 refl; numbers_in_bounds = c.requires }
