-- `update::merge::Pass::of` meets its contract.
use native.Mathlib.Omega.{arith}
use Rattle.update.proofs.Steps.{size_of}
use Rattle.update.proofs.merge.Pass.of.Goals as goal

pub invariant_of-result : goal.invariant_of-result
invariant_of-result c =
    record {
      sound = c.requires.card_value;
      in_order = c.requires.batch_value;
      reached = c.requires.reaches_value;
      sized = (size_of _ _ c.requires.card_value c.of-size.ensures).0;
      card_words = λ i. omega (arith, c.type_inv.card i);
      batch_words = λ i. omega (arith, c.type_inv.batch i);
    }
