-- `figures::number` meets its contract. The invariant of its loop, Reading: what is read is worth value, and the rest decides.
use Rattle.std.proofs.Common.{sym, ◌∙◌}
use Rattle.figures.proofs.Reading.{reading_start, reading_turn, reading_stop, reading_end, none_read, zero_read}
use Rattle.figures.proofs.number.Goals as goal

pub returns-then-is_empty : goal.returns-then-is_empty
returns-then-is_empty c = none_read _ (sym c.is_empty.ensures ∙ c.if-is_empty.true)

pub returns-then-bytes : goal.returns-then-bytes
returns-then-bytes c = zero_read _ c.if-bytes.true

pub loop-byte-init : goal.loop-byte-init
loop-byte-init c = reading_start _ (sym c.is_empty.ensures ∙ c.if-is_empty.false) c.if-bytes.false

pub returns-in_err-value : goal.returns-in_err-value
returns-in_err-value c = c.from_residual.ensures ∙ reading_stop c.loop-byte.invariant c.loop-byte-test.true c.in_err-value.ensures

pub loop-byte-preserved : goal.loop-byte-preserved
loop-byte-preserved c = reading_turn c.loop-byte.invariant c.loop-byte-test.true c.in_ok-value.ensures

pub returns : goal.returns
returns c = reading_end c.loop-byte.invariant c.loop-byte-test.false
