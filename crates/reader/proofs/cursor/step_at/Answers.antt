-- `reader::cursor::step_at` meets its contract.
use mathlib.Core.Path.{refl}
use Rattle.reader.proofs.Cursors.{InHand, in_hand, taken, step_posting, step_end, step_astray}
use Rattle.reader.proofs.cursor.step_at.Goals as goal
use Rattle.reader.proofs.cursor.step_at.Goals.{Joined-cursor-eq0, then-cursor-eq0+in-Some, else-cursor-eq0}

pub returns-in_default : goal.returns-in_default
returns-in_default c = step_end c.args.cursor.now (c.in_default.ensures.none refl) c.if-cursor-eq0.true

-- a run is in hand, the next one or what is left of the last
held : (c : Joined-cursor-eq0) → InHand c.args.card.now c.args.cursor.now c.if-cursor-eq0.cursor
held c =
    elim c.if-cursor-eq0.branch [
      | then-cursor-eq0+in-Some w ↦ rw w.cursor-is (taken w.in-Some.ensures.some w.if-cursor-eq0.true)
      | else-cursor-eq0 w ↦ rw w.cursor-is (in_hand c.args.cursor.now w.if-cursor-eq0.false)
    ]

pub returns : goal.returns
returns c =
    let found = c.in-Some-get.ensures.lookup.3 in
    rw (found.1 0) (step_posting (held (goal.at.returns c).Joined-cursor-eq0) found.0)

pub returns-in_default-get : goal.returns-in_default-get
returns-in_default-get c = step_astray (held (goal.at.returns-in_default-get c).Joined-cursor-eq0) c.in_default-get.ensures.lookup.3
