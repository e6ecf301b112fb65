-- `batch::Cursor::pass_to` meets its contract. The invariant of its loop: what is passed from the cursor in hand on is what is asked for.
use native.Mathlib.Omega.{arith}
use mathlib.Core.Path.{sym, ap, ◌∙◌}
use Rattle.batch.specs.code.Records.{record_of}
use Rattle.batch.proofs.Records.{array_at, array_end}
use Rattle.batch.proofs.Search.{passing_turn, passing_stop, passing_end, behind_next}
use Rattle.batch.proofs.Cursor.pass_to.Goals as goal

pub loop-words-smaller : goal.loop-words-smaller
loop-words-smaller c = omega (arith, ap (λ k. k.next) c.with-cursor-in-Some.ensures ∙ behind_next _ _, c.in-Some.ensures.lookup.3.0)

pub loop-words-preserved : goal.loop-words-preserved
loop-words-preserved c =
    let h = c.in-Some.ensures.lookup.3 in
    c.loop-words.invariant
    ∙ rw (c.with-cursor-in-Some.ensures, c.with-cursor.ensures)
    (passing_turn _ _ _ _ (array_at _ _ h.0 (c.of-u.ensures ∙ ap record_of (h.1 _))) (rw c.first_rank.ensures at c.if-rank-first_rank.false))

pub returns-then-rank-first_rank : goal.returns-then-rank-first_rank
returns-then-rank-first_rank c =
    let h = c.in-Some.ensures.lookup.3 in
    sym (c.loop-words.invariant ∙ passing_stop _ _ _ _ _ (array_at _ _ h.0 (c.of-u.ensures ∙ ap record_of (h.1 _))) (rw c.first_rank.ensures at c.if-rank-first_rank.true))

pub returns-in_default : goal.returns-in_default
returns-in_default c = sym (c.loop-words.invariant ∙ passing_end _ _ _ (array_end _ _ c.in_default.ensures.lookup.3))
