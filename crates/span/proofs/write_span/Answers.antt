-- `span::write_span` meets its contract: a block's words stand in the due place.
use mathlib.Core.Path.{◌≡◌, sym, ◌∙◌}
use Rattle.card.specs.Sound.{judged}
use Rattle.span.specs.Span.{write_span}
use Rattle.span.proofs.Spans.{due, size}
use Rattle.span.proofs.write_span.Goals as goal

pub returns-in-1 : goal.returns-in-1
unfolding write_span
returns-in-1 c =
    let w = c.args.card.now in
    let sound : judged c.args.card.now ≡ 0 = sym c.in_ok-judge.ensures in
    rw (c.in-1.is, c.place_start-block.ensures, c.due_place-place.ensures ∙ due w _ c.in_ok-judge.ensures c.of-k.ensures, size w _ c.in_ok-judge.ensures c.of-k.ensures, sound)
