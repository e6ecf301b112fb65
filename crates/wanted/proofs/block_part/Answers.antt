-- `wanted::block_part` meets its contract. The invariant of its loop, Seek: what is wanted of the block stands in the words from i on.
use native.Mathlib.Omega.{arith}
use mathlib.Core.Path.{◌≡◌, sym}
use mathlib.Core.Bool.{true}
use lib.ListN.{drop}
use Rattle.pair.specs.Rank.{Words}
use Rattle.block.specs.code.Scan.{reads_on}
use Rattle.wanted.proofs.Seeking.{seek_stop, seek_misfit, seek_past, seek_found}
use Rattle.wanted.proofs.block_part.Goals as goal
use Rattle.wanted.proofs.block_part.Goals.{In-loop-next}

words : (c : In-loop-next) → Words c.args.words.now
unfolding Words
words c = λ i. omega (arith, c.type_inv.words i)

on : (c : In-loop-next) → reads_on (drop c.loop-next.i c.args.words.now) ≡ true
on c = sym c.loop-next-test.ensures

pub returns-then-room-count : goal.returns-then-room-count
returns-then-room-count c = seek_misfit c.loop-next.invariant (on (goal.at.returns-then-room-count c).In-loop-next) (omega arith)

pub returns-then-term-next : goal.returns-then-term-next
returns-then-term-next c =
    let t = (goal.at.returns-then-term-next c).In-loop-next in
    seek_past (words t) c.loop-next.invariant (on t) (omega arith) (omega arith) c.if-term-next.true

pub returns-then-next-term : goal.returns-then-next-term
returns-then-next-term c =
    let t = (goal.at.returns-then-next-term c).In-loop-next in
    seek_found (words t) c.loop-next.invariant (on t) (omega arith) (omega arith) c.if-next-term.true c.entry_part-found.ensures

pub returns : goal.returns
returns c = seek_stop c.loop-next.invariant (sym c.loop-next-test.ensures)
