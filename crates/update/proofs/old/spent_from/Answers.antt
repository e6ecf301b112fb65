-- `update::old::spent_from` meets its contract. The invariant, Freeing: the first n old places have no pair above the rank.
use Prim.Native.Nat.{◌+◌, ◌%◌, ◌<◌}
use native.Mathlib.Omega.{arith}
use mathlib.Core.Path.{◌≡◌, sym, ap, subst, ◌∙◌}
use Rattle.std.proofs.Common.{Some, rules}
use Rattle.pair.specs.Rank.{Words}
use Rattle.pair.specs.Rising.{last}
use Rattle.block.specs.Block.{pairs}
use Rattle.block.specs.code.Scan.{scanned}
use Rattle.block.specs.declared.Ends.{Ends}
use Rattle.card.specs.Layout.{place_count, start_of_old, length_of_old, place}
use Rattle.card.specs.code.Configuration.{Ordered}
use Rattle.card.proofs.Facts.{facts}
use Rattle.card.proofs.Ordered.{ordered_sound, place_on_law}
use Rattle.update.specs.code.Old.{Freeing}
use Rattle.update.proofs.Skipping.{ends_at, scanned_there, freeing_turn, freeing_stop, freeing_end}
use Rattle.update.proofs.old.spent_from.Goals as goal
use Rattle.update.proofs.old.spent_from.Goals.{After-scan}

last_of : {e f : Ends} → Some e ≡ Some f → e.last ≡ f.last
last_of p = cc

inside : (c : After-scan) → c.loop-n.n < length_of_old c.args.card.now
inside c = let o : Ordered c.args.card.now c.of-k.result = ordered_sound (facts _ c.requires.card_value) c.of-k.ensures in rw o.of_old at c.loop-n-test.true

-- the block scanned is the one behind the first n places
found : (c : After-scan) → let w = c.args.card.now in c.scan.result ≡ Some (ends_at w ((start_of_old w + c.loop-n.n) % place_count w))
found c =
    let o : Ordered c.args.card.now c.of-k.result = ordered_sound (facts _ c.requires.card_value) c.of-k.ensures in
    c.scan.ensures ∙ ap scanned (c.place.ensures ∙ ap (place _) (c.place_on.ensures ∙ place_on_law o _ _ ∙ rw o.of_start)) ∙ scanned_there c.loop-n.invariant (inside c)

pub unwrap-last-requires : goal.unwrap-last-requires
unwrap-last-requires c = rw (found (goal.at.unwrap-last-requires c).After-scan) (search rules)

pub returns-then-rank-last : goal.returns-then-rank-last
unfolding Words
returns-then-rank-last c =
    let s = (goal.at.returns-then-rank-last c).After-scan in
    let words : Words c.args.card.now = λ i. omega (arith, c.type_inv.card i) in
    let last : c.unwrap-last.result.last ≡ last 0 (pairs (place c.args.card.now ((start_of_old c.args.card.now + c.loop-n.n) % place_count c.args.card.now))) =
    last_of (sym c.unwrap-last.ensures ∙ found s) in
    record {
      spends = record { freeing = c.loop-n.invariant; known = record { inside = inside s; is = last } };
      count = freeing_stop c.loop-n.invariant (inside s) words (rw last at c.if-rank-last.true);
    }

pub loop-n-preserved : goal.loop-n-preserved
unfolding Words
loop-n-preserved c =
    let s = (goal.at.loop-n-preserved c).After-scan in
    let words : Words c.args.card.now = λ i. omega (arith, c.type_inv.card i) in
    freeing_turn c.loop-n.invariant (inside s) words (rw (last_of (sym c.unwrap-last.ensures ∙ found s)) at c.if-rank-last.false)

pub returns : goal.returns
returns c =
    let o : Ordered c.args.card.now c.of-k.result = ordered_sound (facts _ c.requires.card_value) c.of-k.ensures in
    let all : c.loop-n.n ≡ c.of-k.result.old_length = omega (arith, o.of_old, c.loop-n.invariant.within) in
    record {
      spends = record { freeing = subst (λ n. Freeing c.args.card.now c.args.rank n) all c.loop-n.invariant; known = tt };
      count = freeing_end (subst (λ n. Freeing c.args.card.now c.args.rank n) all c.loop-n.invariant) (omega (arith, o.of_old));
    }
