-- `reader::posting` meets its contract: n yields after none are n.
use mathlib.Core.Path.{ap, ◌∙◌}
use lib.ListN.{length}
use Rattle.std.specs.Prelude.{slice_get}
use Rattle.std.proofs.lemmas.Iterator.Consumers.{nth_from_yields_List, YieldsList-from_shown}
use Rattle.reader.specs.code.PostingReader.{left_in, ReaderStep}
use Rattle.reader.proofs.Readings.{yielded_after}
use Rattle.reader.proofs.posting.Goals as goal

pub returns : goal.returns
returns c =
    let a = c.args in
    yielded_after _ _ _ _ _ _
    (nth_from_yields_List {steps = ReaderStep} _ c.nth.new.self _ c.nth.ensures.ran
    (YieldsList-from_shown _ (λ p. p) left_in (λ s t h. ap length h.first.0) (λ s x t h. h.first) c.open.result)
    ∙ ap (λ ps. slice_get ps a.n) c.open.ensures.left)
