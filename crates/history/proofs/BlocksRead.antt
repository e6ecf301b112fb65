-- The blocks read are at most two more than the blocks that hold a live posting in range.
use Rattle.found.proofs.Bound.{blocks_read_bound_law}
use Rattle.history.specs.Claims.{BlocksReadBound}

pub blocks_read_bound : BlocksReadBound
unfolding BlocksReadBound
blocks_read_bound = blocks_read_bound_law
