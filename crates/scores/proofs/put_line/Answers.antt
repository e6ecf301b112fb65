-- `scores::put_line` meets its contract.
use Prim.Native.Nat.{◌+◌}
use native.Mathlib.Omega.{arith}
use mathlib.Core.Path.{ap}
use lib.ListN.{length-set}
use Rattle.figures.proofs.Figures.{decimal_few}
use Rattle.scores.proofs.Printing.{line_length, line_put}
use Rattle.scores.proofs.put_line.Goals as goal

pub overflow_add-end : goal.overflow_add-end
overflow_add-end c = record { fits = omega (arith, c.figure_count-end.ensures, decimal_few c.args.n (omega arith)) }

pub bounds-line-end : goal.bounds-line-end
bounds-line-end c = omega (arith, c.figure_count-end.ensures, decimal_few c.args.n (omega arith))

pub overflow_add-result : goal.overflow_add-result
overflow_add-result c = record { fits = omega (arith, c.figure_count-end.ensures, decimal_few c.args.n (omega arith)) }

pub returns : goal.returns
returns c =
    let count = c.figure_count-end.ensures in
    record {
      value = (
        omega (arith, count, line_length c.args.letter c.args.n),
        line_put c.args.line.now c.args.letter c.args.n _ (simp length-set (omega arith)) (omega arith) c.put_number.ensures (ap (λ k. 2 + k) count),
      );
      upper_bound = omega (arith, count, decimal_few c.args.n (omega arith));
    }
