-- `update::old::along` meets its contract.
use native.Mathlib.Omega.{arith}
use mathlib.Core.Path.{sym}
use Rattle.update.specs.code.Old.{along}
use Rattle.update.proofs.Cursor.{positions_room}
use Rattle.update.proofs.Running.{along_some}
use Rattle.update.proofs.old.along.Goals as goal

pub returns-then-n-eq0 : goal.returns-then-n-eq0
unfolding along
returns-then-n-eq0 c = rw c.if-n-eq0.true

pub overflow_add-at : goal.overflow_add-at
overflow_add-at c = omega (arith, positions_room c.requires.stands, c.requires.stands.ends, c.requires.n_le_count, c.well_formed)

pub offset_bounds-card-at : goal.offset_bounds-card-at
offset_bounds-card-at c = omega (arith, positions_room c.requires.stands, c.requires.stands.ends, c.requires.n_le_count)

pub bounds-card-at : goal.bounds-card-at
bounds-card-at c = omega (arith, positions_room c.requires.stands, c.requires.stands.ends, c.requires.n_le_count, c.if-n-eq0.false)

pub returns : goal.returns
returns c = rw c.rank.ensures (sym (along_some _ _ _ (omega (arith, c.if-n-eq0.false))))
