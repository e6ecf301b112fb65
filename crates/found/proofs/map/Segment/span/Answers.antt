-- `found::map::Segment::span` meets its contract: two searches of the map.
use Rattle.found.proofs.Unread.{skips_at_most, spanned_is}
use Rattle.found.proofs.map.Segment.span.Goals as goal

pub overflow_sub-result : goal.overflow_sub-result
overflow_sub-result c =
    let q = c.args.q in
    skips_at_most q.term q.from q.to c.requires.segment c.requires.from_le_to (rw c.first.ensures at c.rank.ensures) c.mapped_to.ensures c.saturating_sub-skipped.ensures (rw c.last.ensures at c.rank-2.ensures) c.mapped_to-read.ensures

pub returns : goal.returns
returns c =
    let q = c.args.q in
    spanned_is q.term q.from q.to c.requires.segment c.requires.from_le_to (rw c.first.ensures at c.rank.ensures) c.mapped_to.ensures c.saturating_sub-skipped.ensures (rw c.last.ensures at c.rank-2.ensures) c.mapped_to-read.ensures c.args.after c.place_on.ensures
