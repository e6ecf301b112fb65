-- `batch::check` meets its contract.
use native.Mathlib.Omega.{arith}
use mathlib.Core.Path.{refl, sym, ◌∙◌}
use mathlib.Core.Bool.{true, false}
use Rattle.batch.proofs.Records.{number_ragged, number_long, number_read}
use Rattle.batch.proofs.check.Goals as goal
use Rattle.batch.proofs.check.Goals.{then-batch-ne0-via-then-batch-ne0, then-batch-ne0-via-else-batch-ne0+then-records-gt-RECORDS_MOST}

pub returns-then-batch-ne0 : goal.returns-then-batch-ne0
returns-then-batch-ne0 c = elim c.then-batch-ne0.branch [
  | then-batch-ne0-via-then-batch-ne0 w ↦ number_ragged _ w.if-batch-ne0.true
  | then-batch-ne0-via-else-batch-ne0+then-records-gt-RECORDS_MOST w ↦ number_long _ c.records_of-records.ensures w.if-batch-ne0.false w.if-records-gt-RECORDS_MOST.true
]

pub returns-then-seen : goal.returns-then-seen
returns-then-seen c =
    let s = c.survey-seen.ensures in
    number_read _ c.records_of-records.ensures c.if-batch-ne0.false (omega arith) true _ _ (sym c.if-seen.true ∙ s.formed) refl refl

pub returns-then-ill_numbered : goal.returns-then-ill_numbered
returns-then-ill_numbered c =
    let s = c.survey-seen.ensures in
    number_read _ c.records_of-records.ensures c.if-batch-ne0.false (omega arith) false true _ (sym c.if-seen.false ∙ s.formed) c.if-ill_numbered.ensures refl

pub returns-then-seen-2 : goal.returns-then-seen-2
returns-then-seen-2 c =
    let s = c.survey-seen.ensures in
    number_read _ c.records_of-records.ensures c.if-batch-ne0.false (omega arith) false false true (sym c.if-seen.false ∙ s.formed) c.if-ill_numbered.ensures
    (sym c.if-seen-2.true ∙ s.ordered)

pub returns : goal.returns
returns c =
    let s = c.survey-seen.ensures in
    number_read _ c.records_of-records.ensures c.if-batch-ne0.false (omega arith) false false false (sym c.if-seen.false ∙ s.formed) c.if-ill_numbered.ensures
    (sym c.if-seen-2.false ∙ s.ordered)
