-- `batch::ill_numbered` meets its contract.
use Rattle.batch.specs.Batch.{ill_numbered}
use Rattle.batch.proofs.Numbering.{numbers_whole}
use Rattle.batch.proofs.ill_numbered.Goals as goal

pub returns-then-fill_arrivals : goal.returns-then-fill_arrivals
unfolding ill_numbered
returns-then-fill_arrivals c = rw (← c.fill_arrivals.ensures.value, c.if-fill_arrivals.true)

pub returns : goal.returns
unfolding ill_numbered
returns c =
    let f = c.fill_arrivals.ensures in
    rw (← f.value, c.if-fill_arrivals.false, c.repeats.ensures, f.numbers_after, numbers_whole _ c.requires)
