-- `update::step` meets its contract: a refusal of the judge, a refusal of the batch, or the planned write, which is the step's.
use Prim.Native.Nat.{ℕ, ◌≤◌}
use mathlib.Core.Path.{◌≡◌, sym, ap, ◌∙◌}
use lib.ListN.{length, take, replicate, length-replicate}
use lib.Seq.{length-take-le}
use Rattle.std.proofs.lemmas.List.{take-replicate}
use Rattle.card.proofs.Facts.{facts}
use Rattle.card.proofs.Ordered.{ordered_sound}
use Rattle.update.specs.Step.{Step, refused, step}
use Rattle.update.specs.code.Plan.{PlanOf}
use Rattle.update.proofs.Plans.{plan_step}
use Rattle.update.proofs.Steps.{step_checked, step_writes, answers_returned, size_of}
use Rattle.update.proofs.Writes.{length_due_block_law}
use Rattle.update.proofs.step.Goals as goal
use Rattle.update.proofs.step.Goals.{After-plan}

pub returns-in_err-check-clause-answer : goal.returns-in_err-check-clause-answer
returns-in_err-check-clause-answer c = answers_returned _ _ _ _ c.from_residual.ensures.1 (step_checked _ _ _ c.in_err-check.ensures.number)

pub returns-in_err-check-clause-card : goal.returns-in_err-check-clause-card
unfolding refused
returns-in_err-check-clause-card c = sym (ap (λ (s : Step). s.card) (step_checked _ _ _ c.in_err-check.ensures.number))

part_long : (n m : ℕ) → n ≤ m → n ≡ length {A = ℕ} (take n (replicate m 0))
part_long n m h = sym (length-take-le n (replicate m 0) (rw (length-replicate {A = ℕ} m 0) h))

pub slice_bounds-buffer-end : goal.slice_bounds-buffer-end
slice_bounds-buffer-end c = (size_of _ _ c.in_ok-check.ensures.sound c.of-k.ensures).1

pub slice_bounds-words-end : goal.slice_bounds-words-end
slice_bounds-words-end c = part_long _ 1024 (size_of _ _ c.in_ok-check.ensures.sound c.of-k.ensures).1

pub fill_due-due-requires-clause-words_value : goal.fill_due-due-requires-clause-words_value
fill_due-due-requires-clause-words_value c =
    let s = size_of _ _ c.in_ok-check.ensures.sound c.of-k.ensures in
    rw (s.0) (take-replicate _ 1024 0 (rw s.0 at s.1))

pub plan-requires-clause-ordered : goal.plan-requires-clause-ordered
plan-requires-clause-ordered c = ordered_sound (facts _ c.in_ok-check.ensures.sound) c.of-k.ensures

pub plan-requires-clause-words_len : goal.plan-requires-clause-words_len
plan-requires-clause-words_len c = ap length c.fill_due-due.ensures.due.block ∙ length_due_block_law _ _

planned : (c : After-plan) → PlanOf c.args.card.now (step c.args.card.now c.args.batch.now) c.plan.new.words c.plan.result
planned c =
    let o = c.in_ok-check.ensures in
    plan_step _ _ o.sound o.in_order c.plan.ensures c.fill_due-due.ensures.due c.fill_due-due.ensures.pairs

pub returns-in_err-plan-clause-answer : goal.returns-in_err-plan-clause-answer
returns-in_err-plan-clause-answer c =
    answers_returned _ _ _ _ c.from_residual-in_err-plan.ensures.1 (rw c.in_err-plan.was at (planned (goal.at.returns-in_err-plan-clause-answer c).After-plan))

pub returns-in_err-plan-clause-card : goal.returns-in_err-plan-clause-card
unfolding refused
returns-in_err-plan-clause-card c =
    let s = rw c.in_err-plan.was at (planned (goal.at.returns-in_err-plan-clause-card c).After-plan) in
    sym (ap (λ (s : Step). s.card) s)

pub returns-clause-answer : goal.returns-clause-answer
returns-clause-answer c = (rw c.in_ok-plan.was at (planned (goal.at.returns-clause-answer c).After-plan)).answer

pub write-requires : goal.write-requires
write-requires c =
    rw (length-take-le _ _ c.in_ok-plan.ensures.few) (rw c.in_ok-plan.was at (planned (goal.at.write-requires c).After-plan)).inside

pub returns-clause-card : goal.returns-clause-card
returns-clause-card c =
    let s = rw c.in_ok-plan.was at (planned (goal.at.returns-clause-card c).After-plan) in
    c.write.ensures ∙ rw (s.start, s.words) (sym (step_writes _ _))
