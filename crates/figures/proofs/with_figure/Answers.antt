-- `figures::with_figure` meets its contract: a law for each way out.
use Rattle.std.proofs.Common.{sym, ◌∙◌, arith}
use Rattle.figures.specs.Figures.{is_figure}
use Rattle.figures.proofs.Reading.{figured, figured_large, figured_other}
use Rattle.figures.proofs.with_figure.Goals as goal

pub returns-then-not-is_ascii_digit : goal.returns-then-not-is_ascii_digit
unfolding is_figure
returns-then-not-is_ascii_digit c = sym (figured_other c.args.value c.args.byte (sym c.is_ascii_digit.ensures.value ∙ c.if-not-is_ascii_digit.true))

pub returns-in_err-longer : goal.returns-in_err-longer
returns-in_err-longer c = c.from_residual.ensures ∙ sym (figured_large c.args.value c.args.byte (omega (arith, c.in_err-longer.ensures)))

pub returns : goal.returns
unfolding is_figure
returns c = figured c.args.value c.args.byte (sym c.is_ascii_digit.ensures.value ∙ c.if-not-is_ascii_digit.false) (omega (arith, c.in_ok-longer.ensures, c.from.ensures)) c.checked_add.ensures
