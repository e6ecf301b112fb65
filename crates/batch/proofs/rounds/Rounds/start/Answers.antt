-- `batch::rounds::Rounds::start` meets its contract.
use Rattle.batch.proofs.Annulling.{start_at}
use Rattle.batch.proofs.Records.{array_at}
use Rattle.batch.proofs.rounds.Rounds.start.Goals as goal

pub returns : goal.returns
returns c = rw c.first_rank.ensures (start_at _ _ (array_at _ _ c.requires c.of.ensures))
