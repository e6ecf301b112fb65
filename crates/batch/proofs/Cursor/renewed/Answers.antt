-- `batch::Cursor::renewed` meets its contract.
use borrow.Author.Tests.{lt-ltb}
use Rattle.batch.specs.code.Search.{renewed}
use Rattle.batch.proofs.Records.{first_arrays}
use Rattle.batch.proofs.Cursor.renewed.Goals as goal

pub returns-then-falls_short : goal.returns-then-falls_short
unfolding renewed
returns-then-falls_short c =
    rw (c.of.ensures, c.min.ensures, first_arrays _ c.args.records.now, lt-ltb _ _ c.if-self.true, lt-ltb _ _ c.if-falls_short.true)
