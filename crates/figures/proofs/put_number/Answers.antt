-- `figures::put_number` meets its contract. The invariant of its loop, Writing: the figures behind the first are written.
use native.Mathlib.Omega.{arith}
use Rattle.figures.proofs.Writing.{writing_start, writing_turn, writing_end, no_room}
use Rattle.figures.proofs.put_number.Goals as goal
use Rattle.figures.proofs.put_number.Goals.{then-memory-count-via-then-memory-count, then-memory-count-via-else-memory-count+then-memory-count-2}

pub returns-then-memory-count : goal.returns-then-memory-count
returns-then-memory-count c =
    no_room c.args.memory.now c.args.at c.args.n
    (elim c.then-memory-count.branch [
      | then-memory-count-via-then-memory-count w ↦ omega (arith, w.if-memory-count.true, c.figure_count-count.ensures)
      | then-memory-count-via-else-memory-count+then-memory-count-2 w ↦ omega (arith, w.if-memory-count.false, w.if-memory-count-2.true, c.figure_count-count.ensures)
    ])

pub loop-i-init : goal.loop-i-init
loop-i-init c = writing_start c.args.memory.now c.args.at c.args.n (omega (arith, c.figure_count-count.ensures))

pub loop-i-preserved : goal.loop-i-preserved
loop-i-preserved c = writing_turn c.loop-i.invariant c.loop-i-test.true c.last_figure.ensures

pub returns : goal.returns
returns c = writing_end c.loop-i.invariant c.loop-i-test.false (omega (arith, c.figure_count-count.ensures, c.if-memory-count.false, c.if-memory-count-2.false))
