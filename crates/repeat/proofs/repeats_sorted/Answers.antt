-- `repeat::repeats_sorted` meets its contract.
use Rattle.std.proofs.Common.{rules, ◌∙◌}
use Rattle.std.proofs.lemmas.Fn.{always_returns_same}
use lib.Dec.{ltb}
use Rattle.repeat.proofs.Sorting.{repeats_moved, rising_alone}
use Rattle.repeat.proofs.repeats_sorted.Goals as goal

pub returns : goal.returns
returns c =
    let cases = c.is_sorted_by.ensures.cases ltb (always_returns_same _ _ _ (λ a r q k. search rules)) in
    rising_alone c.sort_unstable.new.self c.is_sorted_by.result c.sort_unstable.ensures.sorted cases
    ∙ repeats_moved c.args.numbers.now c.sort_unstable.new.self c.sort_unstable.ensures.permutation
