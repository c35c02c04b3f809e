use Rattle.aes_lanes.proofs.MoveLemmas.{block_of-unshifted}
use Rattle.aes_lanes.proofs.rows.inv_shift_rows.Goals as goal

pub returns-clause-planes : goal.returns-clause-planes
returns-clause-planes c = c.move_unshifted.ensures.planes

pub returns-clause-blocks : goal.returns-clause-blocks
returns-clause-blocks c = block_of-unshifted _ _ c.move_unshifted.ensures
