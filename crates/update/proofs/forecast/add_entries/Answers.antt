-- `update::forecast::add_entries` meets its contract. The invariant of its loop, Sweeps: the pairs up to the last one are packed, and the place stands at
-- it. The measure is what is left.
use Prim.Native.Nat.{ℕ, ◌<◌}
use native.Mathlib.Omega.{arith}
use mathlib.Core.Path.{◌≡◌, sym, ap, ◌∙◌}
use mathlib.Core.Bool.{true}
use Rattle.pair.proofs.Lists.{drop_take}
use Rattle.block.specs.code.Scan.{reads_on}
use Rattle.card.proofs.Facts.{facts}
use Rattle.batch.specs.Batch.{updates}
use Rattle.batch.proofs.Behind.{Untouched, quiet_behind}
use Rattle.update.specs.declared.old.OldCursor.{OldCursor}
use Rattle.update.specs.code.Old.{rest, entry_read, along}
use Rattle.update.proofs.Cursor.{entry_there}
use Rattle.update.proofs.Next.{card_words, batch_words}
use Rattle.update.proofs.Sweeping.{entry_stands_law, entry_addable, sweeps_turn, sweeps_less}
use Rattle.update.proofs.forecast.add_entries.Goals as goal
use Rattle.update.proofs.forecast.add_entries.Goals.{After-quiet_before-bound, After-reads_on, After-along-whole}

low : (c : After-quiet_before-bound) → 0 < c.args.start.place.rank
low c = omega (arith, c.if-place-eq0.false)

-- no record touches a pair before the bound
free : (c : After-quiet_before-bound) → (y : ℕ) → c.args.start.place.rank < y → y < c.quiet_before-bound.result → Untouched (updates c.args.pass.batch.now) y
free c y h z = quiet_behind (batch_words c.args.pass) c.requires.merges.decides c.args.pass.in_order (low c) y h (rw (c.quiet_before-bound.ensures, c.args.pass.reached) at z)

-- an entry stands behind the cursor
reads : (c : After-reads_on) → c.reads_on.result ≡ true → let o = c.loop-place.place.old in reads_on (rest c.args.pass.card.now o.at o.end) ≡ true
reads c e = sym (c.reads_on.ensures ∙ ap reads_on (drop_take c.loop-place.place.old.at c.loop-place.place.old.end c.args.pass.card.now)) ∙ e

-- it, and the cursor at its last pair
abbrev first : After-along-whole → OldCursor
first c = let o = c.loop-place.place.old in entry_read c.args.pass.card.now o.at o.end o.place o.places

whole : (c : After-along-whole) → c.along-whole.result ≡ along c.args.pass.card.now (first c) (first c).count
whole c = rw c.entry-first.ensures at c.along-whole.ensures

pub entry-first-requires : goal.entry-first-requires
entry-first-requires c =
    entry_there c.loop-place.invariant.merges.stands c.loop-place-test.true (reads (goal.at.entry-first-requires c).After-reads_on c.if-reads_on.true)

pub along-whole-requires-clause-stands : goal.along-whole-requires-clause-stands
along-whole-requires-clause-stands c =
    let q = (goal.at.along-whole-requires-clause-stands c).After-quiet_before-bound in
    let r = (goal.at.along-whole-requires-clause-stands c).After-reads_on in
    rw c.entry-first.ensures
    (entry_stands_law (facts _ c.args.pass.sound) (card_words c.args.pass) (low q) (free q) c.loop-place.invariant c.loop-place-test.true (reads r c.if-reads_on.true))

pub add-filling-requires : goal.add-filling-requires
add-filling-requires c =
    let q = (goal.at.add-filling-requires c).After-quiet_before-bound in
    let r = (goal.at.add-filling-requires c).After-reads_on in
    let w = whole (goal.at.add-filling-requires c).After-along-whole in
    rw c.entry-first.ensures
    (entry_addable (facts _ c.args.pass.sound) (card_words c.args.pass) (low q) (free q) c.loop-place.invariant c.loop-place-test.true (reads r c.if-reads_on.true)
    (omega (arith, ap (λ (o : OldCursor). o.rank) c.entry-first.ensures, c.if-first-eq0.false)) (omega (arith, ap (λ (o : OldCursor). o.rank) w, c.if-bound-whole.false))
    c.args.pass.in_order)

pub loop-place-smaller : goal.loop-place-smaller
loop-place-smaller c =
    let q = (goal.at.loop-place-smaller c).After-quiet_before-bound in
    let r = (goal.at.loop-place-smaller c).After-reads_on in
    let w = whole (goal.at.loop-place-smaller c).After-along-whole in
    rw w
    (sweeps_less (facts _ c.args.pass.sound) (card_words c.args.pass) (low q) (free q) c.loop-place.invariant c.loop-place-test.true (reads r c.if-reads_on.true)
    (omega (arith, ap (λ (o : OldCursor). o.rank) c.entry-first.ensures, c.if-first-eq0.false)) (omega (arith, ap (λ (o : OldCursor). o.rank) w, c.if-bound-whole.false)))

pub loop-place-preserved : goal.loop-place-preserved
loop-place-preserved c =
    let q = (goal.at.loop-place-preserved c).After-quiet_before-bound in
    let r = (goal.at.loop-place-preserved c).After-reads_on in
    let w = whole (goal.at.loop-place-preserved c).After-along-whole in
    rw w
    (sweeps_turn (facts _ c.args.pass.sound) (card_words c.args.pass) (low q) (free q) c.loop-place.invariant c.loop-place-test.true (reads r c.if-reads_on.true)
    (omega (arith, ap (λ (o : OldCursor). o.rank) c.entry-first.ensures, c.if-first-eq0.false)) (omega (arith, ap (λ (o : OldCursor). o.rank) w, c.if-bound-whole.false))
    _ (rw c.entry-first.ensures at c.add-filling.ensures))
