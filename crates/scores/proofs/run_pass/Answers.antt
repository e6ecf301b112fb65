-- `scores::run_pass` meets its contract. The invariant of its loop, Passing: so many steps are made, and the others decide.
use native.Mathlib.Omega.{arith}
use mathlib.Core.Path.{sym, ap, ◌∙◌}
use Rattle.pair.specs.Rank.{Words}
use Rattle.refusal.proofs.Numbers.{number_positive}
use Rattle.scores.specs.Outcome.{Refused, pass}
use Rattle.scores.proofs.Outcomes.{refusal_returned}
use Rattle.scores.proofs.Passing.{ends_limit, passing_start, passing_some, passing_refused, passing_finished, passing_turn}
use Rattle.scores.proofs.run_pass.Goals as goal

pub loop-written-init : goal.loop-written-init
unfolding Words
loop-written-init c =
    passing_start _ _ _
    (ends_limit c.args.card.now c.args.batch.now (λ i. omega (arith, c.type_inv.card i)) (λ i. omega (arith, c.type_inv.batch i)) c.requires.card_value)

pub returns-in_err-written : goal.returns-in_err-written
unfolding pass
returns-in_err-written c =
    let n = c.in_err-written.ensures.answer.number in
    refusal_returned c.from_residual.result c.in_err-written.field-0.0 c.from_residual.ensures.1 ∙ ap Refused n
    ∙ passing_refused c.loop-written.invariant (λ z. omega (arith, n, z, number_positive c.in_err-written.field-0.0))

pub overflow_add-steps : goal.overflow_add-steps
overflow_add-steps c = record { fits = omega (arith, passing_some c.loop-written.invariant, c.requires.batch_bound) }

pub returns-then-is_finished : goal.returns-then-is_finished
unfolding pass
returns-then-is_finished c =
    passing_finished c.loop-written.invariant (sym c.in_ok-written.ensures.answer.number) (sym c.in_ok-written.ensures.answer.finished ∙ sym c.is_finished.ensures ∙ c.if-is_finished.true)

pub loop-written-smaller : goal.loop-written-smaller
loop-written-smaller c = omega (arith, passing_some c.loop-written.invariant)

pub loop-written-preserved : goal.loop-written-preserved
loop-written-preserved c =
    passing_turn c.loop-written.invariant (sym c.in_ok-written.ensures.answer.number) (sym c.in_ok-written.ensures.answer.finished ∙ sym c.is_finished.ensures ∙ c.if-is_finished.false) c.in_ok-written.ensures.card c.step.auto.card
