-- `update::freed` meets its contract, by whether pairs stand beyond the due block.
use Rattle.card.proofs.Facts.{facts}
use Rattle.update.proofs.Plans.{freed_more, freed_all}
use Rattle.update.proofs.Skipping.{freeing_start}
use Rattle.update.proofs.freed.Goals as goal

pub spent_from-requires : goal.spent_from-requires
spent_from-requires c =
    record { card_value = c.requires.card_value; freeing = freeing_start _ _ (facts _ c.requires.card_value) }

pub returns-then-due : goal.returns-then-due
returns-then-due c = rw c.spent_from.ensures.count (freed_more _ _ c.if-due.true)

pub returns : goal.returns
returns c = rw c.requires.ordered.of_old (freed_all _ _ c.if-due.false)
