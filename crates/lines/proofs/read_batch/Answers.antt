-- `lines::read_batch` meets its contract: what is behind the bytes that settle a file changes nothing.
use Rattle.std.proofs.Common.{◌∙◌, ap, take}
use Rattle.lines.specs.Lines.{scored}
use Rattle.lines.proofs.Settled.{part_settled}
use Rattle.lines.proofs.read_batch.Goals as goal

pub returns : goal.returns
returns c = c.sort_records.ensures ∙ ap (λ n. scored (take n c.args.bytes.now) c.args.batch.now) c.min.ensures ∙ part_settled c.args.bytes.now c.args.batch.now
