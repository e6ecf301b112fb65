-- `update::old::first` meets its contract: before the first pair the cursor stands.
use Rattle.card.specs.code.Configuration.{Ordered}
use Rattle.card.proofs.Facts.{facts}
use Rattle.card.proofs.Ordered.{ordered_sound}
use Rattle.update.proofs.Skipping.{before_first_stands}
use Rattle.update.proofs.old.first.Goals as goal

pub next-requires : goal.next-requires
next-requires c =
    let in_order : Ordered c.args.card.now c.of-k.result =
    ordered_sound (facts _ c.requires) c.of-k.ensures in
    let o = in_order in rw (o.of_start, o.of_old) (before_first_stands _ (facts _ c.requires))

pub returns : goal.returns
returns c =
    let in_order : Ordered c.args.card.now c.of-k.result =
    ordered_sound (facts _ c.requires) c.of-k.ensures in
    let o = in_order in rw (o.of_start, o.of_old) at c.next.ensures
