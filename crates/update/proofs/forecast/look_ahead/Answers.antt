-- `update::forecast::look_ahead` meets its contract: all blocks are counted, or all but the last.
use mathlib.Core.Path.{refl, ◌∙◌}
use Rattle.card.proofs.Facts.{facts}
use Rattle.card.proofs.Ordered.{ordered_sound}
use Rattle.update.proofs.PackedAll.{packed_none, packed_some}
use Rattle.update.proofs.forecast.look_ahead.Goals as goal

pub returns-then-filling-eq0 : goal.returns-then-filling-eq0
returns-then-filling-eq0 c = c.answer.ensures ∙ packed_none c.pack_all-filling.ensures c.if-filling-eq0.true

pub returns : goal.returns
returns c =
    let f = facts _ c.args.pass.sound in
    let o = ordered_sound f c.of.ensures in
    c.answer-2.ensures
    ∙ packed_some c.count_block.result c.pack_all-filling.ensures f c.if-filling-eq0.false (rw c.count_block.ensures refl) (rw (c.count_block.ensures, o.of_places, o.of_new) refl)
