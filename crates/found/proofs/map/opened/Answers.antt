-- `found::map::opened` meets its contract: the spans of the two segments.
use native.Mathlib.Omega.{arith}
use Rattle.pair.specs.Rank.{Words}
use Rattle.card.proofs.Facts.{facts}
use Rattle.found.proofs.Answers.{asked}
use Rattle.found.proofs.Opening.{new_segment, old_segment, opened_walk}
use Rattle.found.proofs.map.opened.Goals as goal

pub live_after-requires : goal.live_after-requires
live_after-requires c = (asked _ _ _ _ c.requires).from_low

pub span-requires-clause-segment : goal.span-requires-clause-segment
span-requires-clause-segment c =
    rw c.new_start.ensures (new_segment (facts _ (asked _ _ _ _ c.requires).sound) c.of-k.ensures)

pub span-requires-clause-from_le_to : goal.span-requires-clause-from_le_to
span-requires-clause-from_le_to c = (asked _ _ _ _ c.requires).range

pub live_after-requires-2 : goal.live_after-requires-2
live_after-requires-2 c = (asked _ _ _ _ c.requires).from_low

pub span-requires-2-clause-segment : goal.span-requires-2-clause-segment
span-requires-2-clause-segment c = old_segment (facts _ (asked _ _ _ _ c.requires).sound) c.of-k.ensures

pub span-requires-2-clause-from_le_to : goal.span-requires-2-clause-from_le_to
span-requires-2-clause-from_le_to c = (asked _ _ _ _ c.requires).range

pub returns : goal.returns
unfolding Words
returns c =
    let q = c.args.q in
    let words : Words c.args.card.now = λ i. omega (arith, c.type_inv.card i) in
    rw (c.span.ensures, c.span-2.ensures, c.new_start.ensures)
    (opened_walk c.args.card.now c.of-k.result q.term q.from q.to _ _ words c.requires c.of-k.ensures c.live_after.ensures (rw c.of-k.ensures.of_boundary at c.live_after-2.ensures))
