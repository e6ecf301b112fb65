-- `lines::line::read_line` meets its contract: a law for each way out.
use Rattle.std.proofs.Common.{rules, ◌∙◌, sym, ap, ◌∷◌, Some}
use Rattle.figures.proofs.Reading.{read_no_number}
use Rattle.lines.specs.Lines.{record_of, line_record}
use Rattle.lines.specs.code.Gathering.{words_of}
use Rattle.lines.proofs.Lines.{one_field, two_fields}
use Rattle.lines.proofs.Fields.{left_first, left_some, left_none, left_same, record_letter, record_second, record_third, record_fourth, record_few, record_more, record_many, record_adds, record_removes}
use Rattle.lines.proofs.line.read_line.Goals as goal
use Rattle.lines.proofs.line.read_line.Goals.{in-Adds, in-Removes+in_ok-next-in-Removes+in_ok-to-in-Removes}

pub returns-in_err-kind : goal.returns-in_err-kind
unfolding line_record
returns-in_err-kind c =
    let one = left_first c.args.line.now c.split-fields.result c.in_ok-next.field-0 c.next.new.self c.in_ok-next.ensures.steps c.split-fields.ensures.rest c.split-fields.ensures.done c.split-fields.ensures.closure (λ x b q k. search rules) in
    ap words_of c.from_residual-in_err-kind.ensures ∙ sym (ap record_of one.all ∙ record_letter _ one.rest c.in_err-kind.ensures)

pub returns-in_err-next-2 : goal.returns-in_err-next-2
unfolding line_record
returns-in_err-next-2 c =
    let one = left_first c.args.line.now c.split-fields.result c.in_ok-next.field-0 c.next.new.self c.in_ok-next.ensures.steps c.split-fields.ensures.rest c.split-fields.ensures.done c.split-fields.ensures.closure (λ x b q k. search rules) in
    let none = left_none one.left c.next-2.new.self c.in_err-next-2.ensures.steps in
    ap words_of c.from_residual-in_err-next-2.ensures ∙ sym (ap record_of (one.all ∙ ap (λ fs. c.in_ok-next.field-0.now ∷ fs) none) ∙ one_field _)

pub returns-in_err-term : goal.returns-in_err-term
unfolding line_record
returns-in_err-term c =
    let one = left_first c.args.line.now c.split-fields.result c.in_ok-next.field-0 c.next.new.self c.in_ok-next.ensures.steps c.split-fields.ensures.rest c.split-fields.ensures.done c.split-fields.ensures.closure (λ x b q k. search rules) in
    let two = left_some one.left c.in_ok-next-2.field-0 c.next-2.new.self c.in_ok-next-2.ensures.steps in
    ap words_of c.from_residual-in_err-term.ensures ∙ sym (ap record_of (one.all ∙ ap (λ fs. c.in_ok-next.field-0.now ∷ fs) two.all) ∙ record_second _ _ two.rest (read_no_number _ (sym c.in_err-term.ensures)))

pub returns-in_err-next-3 : goal.returns-in_err-next-3
unfolding line_record
returns-in_err-next-3 c =
    let one = left_first c.args.line.now c.split-fields.result c.in_ok-next.field-0 c.next.new.self c.in_ok-next.ensures.steps c.split-fields.ensures.rest c.split-fields.ensures.done c.split-fields.ensures.closure (λ x b q k. search rules) in
    let two = left_some one.left c.in_ok-next-2.field-0 c.next-2.new.self c.in_ok-next-2.ensures.steps in
    let none = left_none two.left c.next-3.new.self c.in_err-next-3.ensures.steps in
    ap words_of c.from_residual-in_err-next-3.ensures ∙ sym (ap record_of (one.all ∙ ap (λ fs. c.in_ok-next.field-0.now ∷ fs) two.all ∙ ap (λ fs. c.in_ok-next.field-0.now ∷ c.in_ok-next-2.field-0.now ∷ fs) none) ∙ two_fields _ _)

pub returns-in_err-from : goal.returns-in_err-from
unfolding line_record
returns-in_err-from c =
    let one = left_first c.args.line.now c.split-fields.result c.in_ok-next.field-0 c.next.new.self c.in_ok-next.ensures.steps c.split-fields.ensures.rest c.split-fields.ensures.done c.split-fields.ensures.closure (λ x b q k. search rules) in
    let two = left_some one.left c.in_ok-next-2.field-0 c.next-2.new.self c.in_ok-next-2.ensures.steps in
    let three = left_some two.left c.in_ok-next-3.field-0 c.next-3.new.self c.in_ok-next-3.ensures.steps in
    ap words_of c.from_residual-in_err-from.ensures ∙ sym (ap record_of (one.all ∙ ap (λ fs. c.in_ok-next.field-0.now ∷ fs) two.all ∙ ap (λ fs. c.in_ok-next.field-0.now ∷ c.in_ok-next-2.field-0.now ∷ fs) three.all) ∙ record_third _ _ _ three.rest (read_no_number _ (sym c.in_err-from.ensures)))

pub returns-in_err-next-in-Removes : goal.returns-in_err-next-in-Removes
unfolding line_record
returns-in_err-next-in-Removes c =
    let one = left_first c.args.line.now c.split-fields.result c.in_ok-next.field-0 c.next.new.self c.in_ok-next.ensures.steps c.split-fields.ensures.rest c.split-fields.ensures.done c.split-fields.ensures.closure (λ x b q k. search rules) in
    let two = left_some one.left c.in_ok-next-2.field-0 c.next-2.new.self c.in_ok-next-2.ensures.steps in
    let three = left_some two.left c.in_ok-next-3.field-0 c.next-3.new.self c.in_ok-next-3.ensures.steps in
    let none = left_none three.left c.next-in-Removes.new.self c.in_err-next-in-Removes.ensures.steps in
    ap words_of c.from_residual-in_err-next-in-Removes.ensures ∙ sym (ap record_of (one.all ∙ ap (λ fs. c.in_ok-next.field-0.now ∷ fs) two.all ∙ ap (λ fs. c.in_ok-next.field-0.now ∷ c.in_ok-next-2.field-0.now ∷ fs) three.all ∙ ap (λ fs. c.in_ok-next.field-0.now ∷ c.in_ok-next-2.field-0.now ∷ c.in_ok-next-3.field-0.now ∷ fs) none) ∙ record_few _ _ _ (ap Some (sym c.in-Removes.is) ∙ c.in_ok-kind.ensures))

pub returns-in_err-to-in-Removes : goal.returns-in_err-to-in-Removes
unfolding line_record
returns-in_err-to-in-Removes c =
    let one = left_first c.args.line.now c.split-fields.result c.in_ok-next.field-0 c.next.new.self c.in_ok-next.ensures.steps c.split-fields.ensures.rest c.split-fields.ensures.done c.split-fields.ensures.closure (λ x b q k. search rules) in
    let two = left_some one.left c.in_ok-next-2.field-0 c.next-2.new.self c.in_ok-next-2.ensures.steps in
    let three = left_some two.left c.in_ok-next-3.field-0 c.next-3.new.self c.in_ok-next-3.ensures.steps in
    let four = left_some three.left c.in_ok-next-in-Removes.field-0 c.next-in-Removes.new.self c.in_ok-next-in-Removes.ensures.steps in
    ap words_of c.from_residual-in_err-to-in-Removes.ensures ∙ sym (ap record_of (one.all ∙ ap (λ fs. c.in_ok-next.field-0.now ∷ fs) two.all ∙ ap (λ fs. c.in_ok-next.field-0.now ∷ c.in_ok-next-2.field-0.now ∷ fs) three.all ∙ ap (λ fs. c.in_ok-next.field-0.now ∷ c.in_ok-next-2.field-0.now ∷ c.in_ok-next-3.field-0.now ∷ fs) four.all) ∙ record_fourth _ _ _ _ four.rest (read_no_number _ (sym c.in_err-to-in-Removes.ensures)))

pub returns-in-Some : goal.returns-in-Some
unfolding line_record
returns-in-Some c =
    let one = left_first c.args.line.now c.split-fields.result c.in_ok-next.field-0 c.next.new.self c.in_ok-next.ensures.steps c.split-fields.ensures.rest c.split-fields.ensures.done c.split-fields.ensures.closure (λ x b q k. search rules) in
    let two = left_some one.left c.in_ok-next-2.field-0 c.next-2.new.self c.in_ok-next-2.ensures.steps in
    let three = left_some two.left c.in_ok-next-3.field-0 c.next-3.new.self c.in_ok-next-3.ensures.steps in
    sym (elim c.match-kind.branch [
      | in-Adds w ↦
          let more = left_some (left_same three.left w.fields-is) c.in-Some.field-0 c.next-4.new.self c.in-Some.ensures.steps in
          ap record_of (one.all ∙ ap (λ fs. c.in_ok-next.field-0.now ∷ fs) two.all ∙ ap (λ fs. c.in_ok-next.field-0.now ∷ c.in_ok-next-2.field-0.now ∷ fs) three.all ∙ ap (λ fs. c.in_ok-next.field-0.now ∷ c.in_ok-next-2.field-0.now ∷ c.in_ok-next-3.field-0.now ∷ fs) more.all) ∙ record_more _ _ _ _ more.rest (ap Some (sym w.in-Adds.is) ∙ c.in_ok-kind.ensures)
      | in-Removes+in_ok-next-in-Removes+in_ok-to-in-Removes w ↦
          let four = left_some three.left w.in_ok-next-in-Removes.field-0 w.next-in-Removes.new.self w.in_ok-next-in-Removes.ensures.steps in
          let more = left_some (left_same four.left w.fields-is) c.in-Some.field-0 c.next-4.new.self c.in-Some.ensures.steps in
          ap record_of (one.all ∙ ap (λ fs. c.in_ok-next.field-0.now ∷ fs) two.all ∙ ap (λ fs. c.in_ok-next.field-0.now ∷ c.in_ok-next-2.field-0.now ∷ fs) three.all ∙ ap (λ fs. c.in_ok-next.field-0.now ∷ c.in_ok-next-2.field-0.now ∷ c.in_ok-next-3.field-0.now ∷ fs) four.all ∙ ap (λ fs. c.in_ok-next.field-0.now ∷ c.in_ok-next-2.field-0.now ∷ c.in_ok-next-3.field-0.now ∷ w.in_ok-next-in-Removes.field-0.now ∷ fs) more.all) ∙ record_many _ _ _ _ _ more.rest
    ])

pub returns-in-None : goal.returns-in-None
unfolding line_record
returns-in-None c =
    let one = left_first c.args.line.now c.split-fields.result c.in_ok-next.field-0 c.next.new.self c.in_ok-next.ensures.steps c.split-fields.ensures.rest c.split-fields.ensures.done c.split-fields.ensures.closure (λ x b q k. search rules) in
    let two = left_some one.left c.in_ok-next-2.field-0 c.next-2.new.self c.in_ok-next-2.ensures.steps in
    let three = left_some two.left c.in_ok-next-3.field-0 c.next-3.new.self c.in_ok-next-3.ensures.steps in
    elim c.match-kind.branch [
      | in-Adds w ↦
          let none = left_none (left_same three.left w.fields-is) c.next-4.new.self c.in-None.ensures.steps in
          record_adds _ _ _ w.in-Adds.is c.in_ok-kind.ensures c.in_ok-term.ensures c.in_ok-from.ensures w.to-is ∙ sym (ap record_of (one.all ∙ ap (λ fs. c.in_ok-next.field-0.now ∷ fs) two.all ∙ ap (λ fs. c.in_ok-next.field-0.now ∷ c.in_ok-next-2.field-0.now ∷ fs) three.all ∙ ap (λ fs. c.in_ok-next.field-0.now ∷ c.in_ok-next-2.field-0.now ∷ c.in_ok-next-3.field-0.now ∷ fs) none))
      | in-Removes+in_ok-next-in-Removes+in_ok-to-in-Removes w ↦
          let four = left_some three.left w.in_ok-next-in-Removes.field-0 w.next-in-Removes.new.self w.in_ok-next-in-Removes.ensures.steps in
          let none = left_none (left_same four.left w.fields-is) c.next-4.new.self c.in-None.ensures.steps in
          record_removes _ _ _ _ w.in-Removes.is c.in_ok-kind.ensures c.in_ok-term.ensures c.in_ok-from.ensures w.in_ok-to-in-Removes.ensures w.to-is ∙ sym (ap record_of (one.all ∙ ap (λ fs. c.in_ok-next.field-0.now ∷ fs) two.all ∙ ap (λ fs. c.in_ok-next.field-0.now ∷ c.in_ok-next-2.field-0.now ∷ fs) three.all ∙ ap (λ fs. c.in_ok-next.field-0.now ∷ c.in_ok-next-2.field-0.now ∷ c.in_ok-next-3.field-0.now ∷ fs) four.all ∙ ap (λ fs. c.in_ok-next.field-0.now ∷ c.in_ok-next-2.field-0.now ∷ c.in_ok-next-3.field-0.now ∷ w.in_ok-next-in-Removes.field-0.now ∷ fs) none))
    ]
