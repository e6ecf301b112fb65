-- `lines::gather` meets its contract. The invariant of its loop, Gathering: the records of count lines stand in the memory.
use Rattle.std.proofs.Common.{rules, ◌∙◌, sym, ap}
use Rattle.std.specs.Slice.Iter.{split_inclusive_rest}
use Rattle.lines.specs.code.Gathering.{words_of}
use Rattle.lines.proofs.Fields.{first_line}
use Rattle.lines.proofs.Gathering.{gathering_start, gathering_other, gathering_many, gathering_turn, gathering_end, record_refused}
use Rattle.lines.proofs.gather.Goals as goal

pub loop-piece-init : goal.loop-piece-init
loop-piece-init c =
    gathering_start _ _ (ap split_inclusive_rest c.into_iter-piece-iterator.ensures.into_iter_gives ∙ c.split_inclusive-piece-items.ensures.rest)

pub returns-in_err-record-clause-faulty : goal.returns-in_err-record-clause-faulty
returns-in_err-record-clause-faulty c =
    let line = first_line (split_inclusive_rest c.next.new.self) c.in-Some.piece c.strip_suffix.result c.unwrap_or-text.result c.in-Some.ensures.steps (λ x b q k. search rules) c.strip_suffix.ensures.cases c.unwrap_or-text.ensures in
    record_refused c.from_residual.result c.in_err-record.field-0.0 c.from_residual.ensures.1 c.in_err-record.ensures.value c.in_err-record.ensures.ok_part (gathering_other _ c.loop-piece.invariant line c.at.result c.at.ensures (ap words_of (sym c.in_err-record.ensures.ok_part) ∙ c.read_line.ensures))

pub returns-then-count-eq-RECORDS_MOST-clause-faulty : goal.returns-then-count-eq-RECORDS_MOST-clause-faulty
returns-then-count-eq-RECORDS_MOST-clause-faulty c =
    let line = first_line (split_inclusive_rest c.next.new.self) c.in-Some.piece c.strip_suffix.result c.unwrap_or-text.result c.in-Some.ensures.steps (λ x b q k. search rules) c.strip_suffix.ensures.cases c.unwrap_or-text.ensures in
    gathering_many _ c.loop-piece.invariant line c.at-then-count-eq-RECORDS_MOST.result c.at-then-count-eq-RECORDS_MOST.ensures c.in_ok-record.record (ap words_of (sym c.in_ok-record.ensures.ok_part) ∙ c.read_line.ensures) c.if-count-eq-RECORDS_MOST.true

pub loop-piece-preserved : goal.loop-piece-preserved
loop-piece-preserved c =
    let line = first_line (split_inclusive_rest c.next.new.self) c.in-Some.piece c.strip_suffix.result c.unwrap_or-text.result c.in-Some.ensures.steps (λ x b q k. search rules) c.strip_suffix.ensures.cases c.unwrap_or-text.ensures in
    gathering_turn _ c.loop-piece.invariant line c.in_ok-record.record (ap words_of (sym c.in_ok-record.ensures.ok_part) ∙ c.read_line.ensures) c.if-count-eq-RECORDS_MOST.false c.put_record.ensures

pub returns-clause-gathered : goal.returns-clause-gathered
returns-clause-gathered c = gathering_end c.loop-piece.invariant c.in-None.ensures.steps.0
