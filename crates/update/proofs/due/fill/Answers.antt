-- `update::due::fill` meets its contract. The invariant of its loop, Fills: what remains is the pairs put so far and what is left above the
-- pair in hand. The measure is what is left.
use mathlib.Core.Path.{sym, ◌∙◌}
use Rattle.pack.proofs.Holding.{put_none, put_refused, put_placed}
use Rattle.card.proofs.Facts.{facts}
use Rattle.update.proofs.Fills.{fills_start, fills_end, fills_full, fills_turn}
use Rattle.update.proofs.Merging.{merges_begun}
use Rattle.update.proofs.Next.{remaining_on}
use Rattle.update.proofs.due.fill.Goals as goal

pub loop-next-init : goal.loop-next-init
loop-next-init c =
    (rw c.start-place.ensures.bound (fills_start _ _ _ c.requires), merges_begun (facts _ c.args.pass.sound) c.start-place.ensures)

pub returns-in_default-put : goal.returns-in_default-put
returns-in_default-put c =
    let rest = remaining_on c.args.pass in
    let full = put_refused _ _ _ (sym c.in_default-put.is ∙ c.put.ensures.packing) in
    record {
      due = rw (c.of.ensures, c.put.ensures.words, put_none _ _ _ full) (fills_full c.loop-next.invariant.0 (facts _ c.args.pass.sound) c.in-Some.ensures rest full);
      pairs = rest.proper;
    }

pub loop-next-preserved : goal.loop-next-preserved
loop-next-preserved c =
    let rest = remaining_on c.args.pass in
    let placed = put_placed _ _ _ _ (sym c.in-Some-put.is ∙ c.put.ensures.packing) in (
      rw (c.put.ensures.words, placed.with) (fills_turn c.loop-next.invariant.0 (facts _ c.args.pass.sound) c.in-Some.ensures rest placed.room),
      c.in-Some.ensures.merges,
    )

pub returns : goal.returns
returns c =
    let rest = remaining_on c.args.pass in
    record {
      due = rw c.of-2.ensures (fills_end c.loop-next.invariant.0 (facts _ c.args.pass.sound) c.in_default.ensures);
      pairs = rest.proper;
    }
