-- `update::merge::run` meets its contract.
use native.Mathlib.Omega.{arith}
use Prim.Native.Nat.{◌+◌, ◌-◌}
use mathlib.Core.Path.{◌≡◌}
use Rattle.card.proofs.Facts.{facts}
use Rattle.batch.proofs.Behind.{untouched_behind}
use Rattle.update.proofs.Next.{card_words, batch_words}
use Rattle.update.proofs.Running.{runs_none, runs_up_to, run_room}
use Rattle.update.proofs.merge.Pass.run.Goals as goal

pub returns-then-old-eq0 : goal.returns-then-old-eq0
returns-then-old-eq0 c = runs_none c.requires.merges

pub overflow_add-old : goal.overflow_add-old
overflow_add-old c = omega (arith, run_room c.requires.merges, c.well_formed)

pub slice_bounds-up_to-end : goal.slice_bounds-up_to-end
slice_bounds-up_to-end c = run_room c.requires.merges

pub returns : goal.returns
returns c =
    let m = c.args.merge in
    let batch_words = batch_words c.args.self in
    let count : m.old.at + m.old.count - m.old.at ≡ m.old.count = omega arith in
    runs_up_to (facts _ c.args.self.sound) (card_words c.args.self) c.requires.merges c.if-old-merge.false c.requires.rank_nonzero (rw c.of_rank.ensures at c.if-of_rank-old.false) _ _
    (λ y l t z. untouched_behind batch_words c.requires.merges.decides c.args.self.in_order c.requires.rank_nonzero y l t (rw (c.untouched-to.ensures, c.args.self.reached) at z))
    (rw count at c.up_to.ensures)
