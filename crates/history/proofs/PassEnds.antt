-- A pass left uncut and unrefused, with its batch kept, finishes within three steps for each block that it fills, or in one.
use Rattle.update.proofs.Ends.{pass_finishes_law}
use Rattle.history.specs.Claims.{PassFinishes}

pub pass_finishes : PassFinishes
unfolding PassFinishes
pass_finishes = pass_finishes_law
