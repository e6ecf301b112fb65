-- `found::walk::place_part` meets its contract: the part of a block is a part of the card.
use native.Mathlib.Omega.{arith}
use Rattle.wanted.specs.code.Wanted.{BlockPart}
use Rattle.card.specs.Layout.{place}
use Rattle.found.proofs.Walking.{part_inside, place_some}
use Rattle.found.proofs.walk.place_part.Goals as goal

pub overflow_add-result : goal.overflow_add-result
overflow_add-result c =
    let found : let s = c.args in BlockPart (place s.card.now s.place) s.term s.after s.to c.block_part-part.result =
    rw c.place.ensures at c.block_part-part.ensures in
    omega (arith, c.place_start.ensures, part_inside _ _ found c.if-part-eq0.false)

pub returns : goal.returns
returns c =
    let found : let s = c.args in BlockPart (place s.card.now s.place) s.term s.after s.to c.block_part-part.result =
    rw c.place.ensures at c.block_part-part.ensures in
    rw c.place_start.ensures (place_some found c.if-part-eq0.false)
