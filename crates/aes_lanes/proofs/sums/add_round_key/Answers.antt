use Rattle.aes_lanes.proofs.MoveLemmas.{block_of-added}
use Rattle.aes_lanes.proofs.sums.add_round_key.Goals as goal

pub returns-clause-planes : goal.returns-clause-planes
returns-clause-planes c = c.add.ensures.planes

pub returns-clause-blocks : goal.returns-clause-blocks
returns-clause-blocks c = λ s k copies. block_of-added _ _ _ s k c.add.ensures copies
