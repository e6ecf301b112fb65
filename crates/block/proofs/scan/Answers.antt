-- `block::scan` meets its contract. The invariant of its loop, Reading: what the block is as a whole is what the words from i on are, after a pair of the term and the position in hand.
use native.Mathlib.Omega.{arith}
use mathlib.Core.Path.{sym}
use Rattle.block.proofs.Scanning.{standing, reading_turn}
use Rattle.block.proofs.scan.Goals as goal

pub loop-term-preserved : goal.loop-term-preserved
loop-term-preserved c = reading_turn c.loop-term.invariant (sym c.loop-term-test.ensures) c.rises-ok.result c.rises-ok.ensures

pub bounds-words-2 : goal.bounds-words-2
bounds-words-2 c = omega (arith, standing c.args.words.now 0 0 (sym c.if-not-entry_stands.ensures))
