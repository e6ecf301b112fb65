-- `block::rises` meets its contract. The invariant, Rises: all positions rise exactly where those read do and the rest rises from the last of them.
use Rattle.block.proofs.Walk.{Rises}
use Rattle.block.proofs.rises.Given as goal

abbrev pub invariant-loop-position : goal.invariant-loop-position
invariant-loop-position l = Rises l.positions l.ok l.before l.position-index
