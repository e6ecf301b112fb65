-- `update::forecast::add` meets its contract: all have room, or the pair has none, or some behind it have none.
use Prim.Native.Nat.{ℕ, ◌-◌, ◌≤◌}
use native.Mathlib.Omega.{arith}
use mathlib.Core.Path.{◌≡◌, refl}
use mathlib.Core.List.{List}
use Rattle.pair.specs.Rank.{term}
use Rattle.pair.specs.Rising.{last}
use Rattle.block.specs.Block.{cost}
use Rattle.block.proofs.Size.{cost_low}
use Rattle.pack.proofs.Holding.{cost_high}
use Rattle.card.specs.Layout.{block_size}
use Rattle.card.specs.Sound.{judged}
use Rattle.card.proofs.Facts.{facts}
use Rattle.update.specs.code.Merge.{run_at}
use Rattle.update.proofs.Next.{card_words}
use Rattle.update.proofs.Tallying.{spends_on, run_further, counts_fit, counts_next, counts_parted}
use Rattle.update.proofs.forecast.add.Goals as goal
use Rattle.update.proofs.forecast.add.Goals.{After-cost-head, After-last_of-end}

-- the numbers in hand: the room of a block, what the pair x costs behind the pair d
record Numbers (card : List ℕ) (b d x k : ℕ) : Type 0 where
  low : 8 ≤ block_size card
  size : b ≡ block_size card
  cost : k ≡ cost (term d) x
  some : 1 ≤ k
  few : k ≤ 3

numbers_of : (card : List ℕ) (b d x k : ℕ) → judged card ≡ 0 → b ≡ block_size card → k ≡ cost (term d) x → Numbers card b d x k
numbers_of card b d x k s e f =
    record {
      low = (facts card s).size_low;
      size = e;
      cost = f;
      some = rw f (cost_low (term d) x);
      few = rw f (cost_high (term d) x);
    }

numbers : (c : After-cost-head) → Numbers c.args.pass.card.now c.args.pass.size c.args.filling.last c.args.rank c.cost-head.result
numbers c = numbers_of c.args.pass.card.now c.args.pass.size c.args.filling.last c.args.rank c.cost-head.result c.args.pass.sound c.args.pass.sized c.cost-head.ensures.value

pub returns-then-head-more : goal.returns-then-head-more
returns-then-head-more c =
    let n = numbers (goal.at.returns-then-head-more c).After-cost-head in
    let q = c.requires in
    let further = run_further c.args.pass.card.now c.args.rank (term c.args.rank) c.args.at c.args.more c.args.more (omega arith) q.rising in
    record {
      inside = omega (arith, c.if-head-more.true, n.size, n.some);
      spends = spends_on (omega (arith, q.after, c.last_of-last.ensures, further.0)) q.spends;
      last_pair = c.last_of-last.ensures;
      counts = λ whole rest g. counts_fit _ whole rest _ _ _ _ (card_words c.args.pass) g _ (omega (arith, n.cost, n.some)) c.last_of-last.ensures refl;
    }

pub returns-then-room-head : goal.returns-then-room-head
returns-then-room-head c =
    let n = numbers (goal.at.returns-then-room-head c).After-cost-head in
    let q = c.requires in
    let further = run_further c.args.pass.card.now c.args.rank (term c.args.rank) c.args.at c.args.more c.args.more (omega arith) q.rising in
    record {
      inside = omega (arith, q.short);
      spends = spends_on (omega (arith, q.after, c.last_of-last.ensures, further.0)) c.close.ensures.spends;
      last_pair = c.last_of-last.ensures;
      counts = λ whole rest g. counts_next _ whole rest _ _ _ _ (card_words c.args.pass) g (omega (arith, n.low)) q.inside _ (omega (arith, n.cost, n.some, n.size, c.if-room-head.true)) c.close.ensures (omega arith) c.last_of-last.ensures;
    }

-- the pairs that fit end between the first of them and the last of all
between : (c : After-last_of-end) → let a = c.args in
    let end = last a.rank (run_at a.pass.card.now (term a.rank) a.at (a.pass.size - a.filling.used - (c.cost-head.result - 1) - 1)) in
    (a.rank ≤ end) × (end ≤ c.last_of-last.result)
between c =
    let a = c.args in
    let h = run_further a.pass.card.now a.rank (term a.rank) a.at (a.pass.size - a.filling.used - (c.cost-head.result - 1) - 1) a.more (omega (arith, c.if-head-more.false)) c.requires.rising in
    (h.0, omega (arith, c.last_of-last.ensures, h.1))

pub close-requires-2-clause-spends : goal.close-requires-2-clause-spends
close-requires-2-clause-spends c =
    let q = c.requires in
    spends_on (omega (arith, c.last_of-end.ensures, (between (goal.at.close-requires-2-clause-spends c).After-last_of-end).0, q.after)) q.spends

pub returns : goal.returns
returns c =
    let n = numbers (goal.at.returns c).After-cost-head in
    let q = c.requires in
    let i = c.if-head-more.false in
    let j = c.if-room-head.false in
    let fit = c.args.pass.size - c.args.filling.used - (c.cost-head.result - 1) - 1 in
    record {
      inside = omega (arith, q.short);
      spends = spends_on (omega (arith, c.last_of-end.ensures, (between (goal.at.returns c).After-last_of-end).1)) c.close-2.ensures.spends;
      last_pair = c.last_of-last.ensures;
      counts = λ whole rest g.
          counts_parted _ whole rest _ _ _ _ (card_words c.args.pass) g (omega (arith, n.low)) q.inside _ fit (omega (arith, i, j)) (omega (arith, n.cost, n.some, n.size, i, j, q.inside))
          (rw c.last_of-end.ensures at c.close-2.ensures) (omega (arith, i, j)) c.last_of-last.ensures;
    }
