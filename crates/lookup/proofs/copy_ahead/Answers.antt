-- `lookup::copy_ahead` meets its contract: the positions of the new segment's stretch, and those of the old segment's behind them.
use mathlib.Core.Path.{refl}
use Rattle.pair.proofs.Lists.{sets_behind}
use Rattle.found.specs.code.Walk.{ahead_of}
use Rattle.lookup.proofs.copy_ahead.Goals as goal

pub returns : goal.returns
returns c = let a = c.args in
    let w = a.walk in
    sets_behind a.answer.now 0 (ahead_of a.card.now w.term w.to w.new) (ahead_of a.card.now w.term w.to w.old)
    c.copy_stretch-moved.ensures.answer refl (rw c.copy_stretch-moved.ensures.word at c.copy_stretch.ensures.answer)
