-- `update::plan` meets its contract: each return is one case of proofs/Plans.
use Prim.Native.Nat.{ℕ, ◌+◌}
use native.Mathlib.Omega.{arith}
use mathlib.Core.Path.{refl, sym, ap, ◌∙◌}
use lib.ListN.{get_or, length-set}
use lib.Seq.{length-take-le}
use Rattle.card.proofs.Facts.{facts}
use Rattle.card.proofs.Ordered.{length_put, due_place_on}
use Rattle.update.proofs.Plans.{large, differs, agrees, free_words, crowded_words, plan_none, plan_crowded, plan_block, plan_entry, plan_done}
use Rattle.update.proofs.plan.Goals as goal

pub returns-then-due-eq0 : goal.returns-then-due-eq0
returns-then-due-eq0 c =
    let f = facts _ c.requires.card_value in
    let o = c.requires.ordered in
    rw (c.settle.ensures.plan, c.settle.ensures.words)
    (record {
      few = rw (length_put, c.requires.words_len) f.size_low;
      of = λ r p a. plan_none f o a c.freed-freed.ensures c.if-due-eq0.true c.args.words.now c.requires.words_len _ o.of_new;
    })

pub returns-then-k-freed : goal.returns-then-k-freed
returns-then-k-freed c =
    let o = c.requires.ordered in
    record {
      few = tt;
      of = λ r p a. plan_crowded (facts _ c.requires.card_value) o a c.freed-freed.ensures c.if-due-eq0.false c.args.words.now (crowded_words _ o.of_places o.of_old o.of_new c.if-k-freed.true);
    }

pub returns-then-ne : goal.returns-then-ne
returns-then-ne c =
    let o = c.requires.ordered in
    let due = c.due_place-place.ensures ∙ due_place_on o in
    rw (c.place_start.ensures, due)
    (record {
      few = omega arith;
      of = λ r p a. plan_block (facts _ c.requires.card_value) o a c.freed-freed.ensures c.if-due-eq0.false (free_words _ o.of_places o.of_old o.of_new c.if-k-freed.false) (differs c.if-ne.ensures (c.place.ensures ∙ rw due) refl);
    })

pub slice_bounds-ne-end : goal.slice_bounds-ne-end
slice_bounds-ne-end c = simp length-set (omega (arith, large _ c.requires.card_value, c.requires.words_len))

pub slice_bounds-ne-end-2 : goal.slice_bounds-ne-end-2
slice_bounds-ne-end-2 c = sym (length-take-le 2 _ (simp length-set (omega (arith, large _ c.requires.card_value, c.requires.words_len))))

pub returns-then-ne-2 : goal.returns-then-ne-2
returns-then-ne-2 c =
    let o = c.requires.ordered in
    let due = c.due_place-place.ensures ∙ due_place_on o in
    rw (c.entry_start.ensures, due)
    (record {
      few = simp length-set (omega (arith, large _ c.requires.card_value, c.requires.words_len));
      of = λ r p a. plan_entry (facts _ c.requires.card_value) o a c.freed-freed.ensures c.if-due-eq0.false (free_words _ o.of_places o.of_old o.of_new c.if-k-freed.false) p (agrees c.if-ne.ensures (c.place.ensures ∙ rw due) refl)
          (differs c.if-ne-2.ensures (c.entry.ensures ∙ rw due) refl);
    })

pub returns : goal.returns
returns c =
    let f = facts _ c.requires.card_value in
    let o = c.requires.ordered in
    let due = c.due_place-place.ensures ∙ due_place_on o in
    let long = length-set c.args.words.now 1 (get_or c.args.words.now 2 0) ∙ c.requires.words_len in
    rw (c.settle-2.ensures.plan, c.settle-2.ensures.words)
    (record {
      few = rw (length_put, long) f.size_low;
      of = λ r p a.
          plan_done f o a c.freed-freed.ensures c.if-due-eq0.false (free_words _ o.of_places o.of_old o.of_new c.if-k-freed.false) p (agrees c.if-ne.ensures (c.place.ensures ∙ rw due) refl)
          (agrees c.if-ne-2.ensures (c.entry.ensures ∙ rw due) refl) _ (ap (λ (x : ℕ). x + 1) o.of_new) long;
    })
