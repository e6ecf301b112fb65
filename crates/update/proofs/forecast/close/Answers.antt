-- `update::forecast::close` meets its contract: with a write before it that left no place free, the old places decide nothing.
use native.Mathlib.Omega.{arith}
use mathlib.Core.Path.{refl}
use borrow.Author.Tests.{ne_eqb}
use Rattle.card.proofs.Facts.{facts}
use Rattle.card.proofs.Ordered.{ordered_sound}
use Rattle.update.specs.code.Tally.{free_with}
use Rattle.update.proofs.forecast.close.Goals as goal

pub returns-then-tally : goal.returns-then-tally
unfolding free_with
returns-then-tally c = record { blocks = refl; free = rw (ne_eqb _ _ c.if-tally.true); spends = c.requires.spends }

pub overflow_sub-k : goal.overflow_sub-k
overflow_sub-k c =
    let o = ordered_sound (facts _ c.args.pass.sound) c.of-k.ensures in
    omega (arith, c.spent_on-spent.ensures.spends.freeing.within, o.of_old)

pub returns : goal.returns
returns c =
    let o = ordered_sound (facts _ c.args.pass.sound) c.of-k.ensures in
    rw c.count_block.ensures record {
      blocks = refl;
      free = rw (o.of_places, o.of_new, o.of_old, c.spent_on-spent.ensures.count);
      spends = c.spent_on-spent.ensures.spends;
    }
