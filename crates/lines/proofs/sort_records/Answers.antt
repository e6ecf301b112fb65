-- `lines::sort_records` meets its contract: the sort's reply tells whether the lent words are enough, and leaves the batch in them.
use Rattle.std.proofs.Common.{sym, ap, ◌∙◌, Err}
use Rattle.lines.specs.code.Gathering.{answered}
use Rattle.lines.proofs.Answers.{faulty_returned, answered_unsorted, answered_sorted}
use Rattle.lines.proofs.sort_records.Goals as goal

pub returns-in_err-words : goal.returns-in_err-words
returns-in_err-words c = faulty_returned c.args.bytes.now c.args.batch.now c.from_residual.result c.from_residual.ensures.1 c.in_err-words.ensures.faulty

pub returns-then-sort : goal.returns-then-sort
returns-then-sort c = answered_sorted c.args.bytes.now c.args.batch.now c.args.records.now c.in_ok-words.ensures.gathered c.requires (sym c.if-sort.true ∙ c.sort.ensures.value) c.sort.ensures.work_after

pub returns-else-sort : goal.returns-else-sort
returns-else-sort c = ap (λ f. answered (Err f) c.sort.new.work) c.at.ensures ∙ answered_unsorted c.args.bytes.now c.args.batch.now c.args.records.now c.in_ok-words.ensures.gathered c.requires (sym c.if-sort.false ∙ c.sort.ensures.value) c.sort.ensures.work_after
