-- `batch::rounds::Rounds::reach_to` meets its contract.
use Rattle.batch.proofs.Annulling.{last_reach, reach_none}
use Rattle.batch.proofs.rounds.Rounds.reach_to.Goals as goal

pub returns-in-Some : goal.returns-in-Some
returns-in-Some c = let h = c.in-Some.ensures.item.3 in rw (h.1 0) (last_reach _ _ h.0)

pub returns-in-None : goal.returns-in-None
returns-in-None c = reach_none _ _ c.in-None.ensures.item.3
