-- `update::forecast::pack_all` meets its contract. The invariant of its loop, Packs: what is packed and what is left above the pair in hand are what
-- remains. The measure is what is left.
use native.Mathlib.Omega.{arith}
use Prim.Native.Nat.{◌<◌}
use mathlib.Core.Path.{subst}
use lib.ListN.{length}
use Rattle.card.proofs.Facts.{facts}
use Rattle.update.specs.code.Merge.{Merges, left}
use Rattle.update.specs.code.Tally.{Counts, Packs}
use Rattle.update.proofs.Merging.{merges_begun, reached_above}
use Rattle.update.proofs.Next.{remaining_on, card_words}
use Rattle.update.proofs.PackedAll.{packs_start, packs_addable, packs_turn, packs_less, packs_few}
use Rattle.update.proofs.Sweeping.{left_fewer}
use Rattle.update.proofs.forecast.pack_all.Goals as goal
use Rattle.update.proofs.forecast.pack_all.Goals.{After-along-place}

pub loop-next-init : goal.loop-next-init
loop-next-init c =
    let sound = facts _ c.args.pass.sound in
    let rest = remaining_on c.args.pass in
    (rw c.start-place.ensures.bound (packs_start _ _ sound rest), merges_begun sound c.start-place.ensures)

pub run-more-requires-clause-rank_nonzero : goal.run-more-requires-clause-rank_nonzero
run-more-requires-clause-rank_nonzero c = omega (arith, reached_above c.in-Some.ensures)

pub add-filling-requires : goal.add-filling-requires
add-filling-requires c =
    let sound = facts _ c.args.pass.sound in
    let few = packs_few c.loop-next.invariant.0 sound (card_words c.args.pass) c.args.pass.in_order in
    packs_addable c.loop-next.invariant.0 c.in-Some.ensures c.run-more.ensures sound c.args.pass.in_order few

-- the pair and the run behind it are packed, and less is left
packed : (c : After-along-place) → Packs c.args.pass.card.now c.args.pass.batch.now c.add-filling.result c.along-place.result.rank × Merges c.args.pass.card.now c.args.pass.batch.now c.along-place.result
packed c = rw c.along-place.ensures (packs_turn c.loop-next.invariant.0 c.in-Some.ensures c.run-more.ensures _ c.add-filling.ensures, c.run-more.ensures.merges)

fewer : (c : After-along-place) → length (left c.args.pass.card.now c.args.pass.batch.now c.along-place.result.rank) < length (left c.args.pass.card.now c.args.pass.batch.now c.loop-next.place.rank)
fewer c = rw c.along-place.ensures (packs_less c.loop-next.invariant.0 c.in-Some.ensures c.run-more.ensures)

pub add_entries-packed-requires-clause-packs : goal.add_entries-packed-requires-clause-packs
add_entries-packed-requires-clause-packs c = (packed (goal.at.add_entries-packed-requires-clause-packs c).After-along-place).0

pub loop-next-smaller-then-more-next : goal.loop-next-smaller-then-more-next
loop-next-smaller-then-more-next c =
    omega (
      arith,
      fewer (goal.at.loop-next-smaller-then-more-next c).After-along-place,
      left_fewer c.args.pass.card.now c.args.pass.batch.now c.along-place.result.rank c.add_entries-packed.result.place.rank c.add_entries-packed.ensures.further,
    )

pub loop-next-smaller : goal.loop-next-smaller
loop-next-smaller c = fewer (goal.at.loop-next-smaller c).After-along-place

pub loop-next-preserved : goal.loop-next-preserved
loop-next-preserved c = packed (goal.at.loop-next-preserved c).After-along-place

pub returns : goal.returns
returns c =
    let g = c.loop-next.invariant.0 in
    record {
      few = packs_few g (facts _ c.args.pass.sound) (card_words c.args.pass) c.args.pass.in_order;
      inside = g.inside;
      counts = subst (Counts _ _ _) c.in_default.ensures g.counts;
    }
