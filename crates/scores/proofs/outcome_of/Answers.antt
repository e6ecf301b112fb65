-- `scores::outcome_of` meets its contract: a number of a line, or the pass with the batch that was read.
use Prim.Native.Nat.{ℕ, ◌*◌, ◌≤◌}
use native.Mathlib.Omega.{arith}
use mathlib.Core.Path.{◌≡◌, sym, ap, ◌∙◌}
use lib.ListN.{length, take, replicate, length-replicate}
use lib.Seq.{length-take-le}
use Rattle.refusal.specs.Refusal.{number}
use Rattle.refusal.proofs.Numbers.{number_positive}
use Rattle.card.specs.Layout.{width_of}
use Rattle.batch.specs.Batch.{record_words, records_most}
use Rattle.scores.specs.Outcome.{fresh_card, pass}
use Rattle.scores.proofs.Fresh.{fits}
use Rattle.scores.proofs.Outcomes.{refusal_returned, outcome_refused, words_inside, words_ready, outcome_passed}
use Rattle.scores.proofs.outcome_of.Goals as goal

room : record_words * records_most ≤ length {A = ℕ} (replicate 20480 0)
room = omega (arith, length-replicate {A = ℕ} 20480 0)

pub returns-in_err-words : goal.returns-in_err-words
returns-in_err-words c =
    refusal_returned c.from_residual.result c.in_err-words.field-0.0.refusal c.from_residual.ensures.1 ∙ outcome_refused c.args.bytes.now _ room c.in_err-words.field-0.0 c.in_err-words.ensures

pub returns-in_err-format : goal.returns-in_err-format
unfolding width_of
returns-in_err-format c =
    let none : number c.in_err-format.field-0.0 ≡ 0 = c.in_err-format.ensures.number ∙ fits in
    absurd (omega (arith, none, number_positive c.in_err-format.field-0.0))

pub slice_bounds-batch-end : goal.slice_bounds-batch-end
slice_bounds-batch-end c = words_inside c.args.bytes.now _ room c.in_ok-words.ensures

pub slice_bounds-run_pass-end-2 : goal.slice_bounds-run_pass-end-2
slice_bounds-run_pass-end-2 c = sym (length-take-le _ c.read_batch.new.batch (words_inside c.args.bytes.now _ room c.in_ok-words.ensures))

pub run_pass-requires : goal.run_pass-requires
unfolding fresh_card width_of
run_pass-requires c =
    let ready = words_ready c.args.bytes.now _ room c.in_ok-words.ensures in
    rw c.format.ensures.written (record { batch_bound = ready.0; card_value = ready.1 })

pub returns : goal.returns
unfolding fresh_card width_of
returns c =
    c.run_pass.ensures ∙ ap (λ k. pass k (take c.in_ok-words.words c.read_batch.new.batch)) c.format.ensures.written ∙ outcome_passed c.args.bytes.now _ room c.in_ok-words.ensures
