-- `batch::rounds::Rounds::halve` meets its contract. The invariant of its loop: what is sought from low to high is what is asked for.
use mathlib.Core.Path.{sym}
use borrow.Author.Tests.{le-leb, lt-leb}
use Rattle.batch.proofs.Annulling.{halving_start, halving_up, halving_down, halving_end}
use Rattle.batch.proofs.rounds.Rounds.halve.Goals as goal

pub loop-low-init : goal.loop-low-init
loop-low-init c = halving_start _ _ _

pub loop-low-preserved-then-start-position : goal.loop-low-preserved-then-start-position
loop-low-preserved-then-start-position c =
    halving_up c.loop-low.invariant c.loop-low-test.true (le-leb _ _ (rw (c.start.ensures, c.from-position.ensures) at c.if-start-position.true))

pub loop-low-preserved : goal.loop-low-preserved
loop-low-preserved c =
    halving_down c.loop-low.invariant c.loop-low-test.true (lt-leb _ _ (rw (c.start.ensures, c.from-position.ensures) at c.if-start-position.false))

pub returns : goal.returns
returns c = sym (halving_end c.loop-low.invariant c.loop-low-test.false)
