-- With an empty batch number 8 never occurs on a sound card.
use mathlib.Core.List.{[]}
use Rattle.card.proofs.Facts.{facts}
use Rattle.batch.proofs.InOrder.{empty_in_order}
use Rattle.update.proofs.Crowded.{empty_not_crowded}
use Rattle.update.proofs.Steps.{accepting}
use Rattle.history.specs.Claims.{EmptyNeverFull}

pub empty_never_full : EmptyNeverFull
unfolding EmptyNeverFull
empty_never_full c w j = accepting c [] (record { sound = j; in_order = empty_in_order; free = empty_not_crowded c (facts c j) w })
