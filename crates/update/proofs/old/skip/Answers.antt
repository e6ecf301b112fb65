-- `update::old::skip` meets its contract. The invariant of its loop, Skips: the pairs passed over are not above the rank.
use native.Mathlib.Omega.{arith}
use Rattle.update.proofs.Skipping.{skips_turn, skips_less, skips_end}
use Rattle.update.proofs.old.skip.Goals as goal

pub loop-o-smaller : goal.loop-o-smaller
loop-o-smaller c = skips_less _ _ _ c.loop-o-test.true c.next-o.ensures

pub loop-o-preserved : goal.loop-o-preserved
loop-o-preserved c = skips_turn c.loop-o.invariant c.loop-o-test.true c.if-o-rank.true c.next-o.ensures

pub returns-else-o-rank : goal.returns-else-o-rank
returns-else-o-rank c = skips_end c.loop-o.invariant (λ n. omega (arith, c.if-o-rank.false))

pub returns-after-loop-o : goal.returns-after-loop-o
returns-after-loop-o c = skips_end c.loop-o.invariant (λ n. absurd (n c.loop-o-test.false))
