-- `update::old::spent_on` meets its contract: the place behind those that are spent is looked at by its last pair, where that is known.
use native.Mathlib.Omega.{arith}
use Rattle.card.proofs.Facts.{facts}
use Rattle.update.proofs.Next.{words_read}
use Rattle.update.proofs.Skipping.{freeing_turn, freeing_stop, ends_there}
use Rattle.update.proofs.old.spent_on.Goals as goal

pub overflow_add-spent : goal.overflow_add-spent
overflow_add-spent c =
    let f = facts _ c.requires.card_value in
    omega (arith, (ends_there _ c.requires.spends c.in-Some.is).inside, f.room, f.count_high)

pub spent_from-requires-in-Some-2-clause-freeing : goal.spent_from-requires-in-Some-2-clause-freeing
spent_from-requires-in-Some-2-clause-freeing c =
    let e = ends_there _ c.requires.spends c.in-Some.is in
    freeing_turn c.requires.spends.freeing e.inside (words_read _ c.type_inv.card) (rw e.is at c.if-rank-last.false)

pub returns-in-Some : goal.returns-in-Some
returns-in-Some c =
    let e = ends_there _ c.requires.spends c.in-Some.is in
    record { spends = c.requires.spends; count = freeing_stop c.requires.spends.freeing e.inside (words_read _ c.type_inv.card) (rw e.is at c.if-rank-last.true) }
