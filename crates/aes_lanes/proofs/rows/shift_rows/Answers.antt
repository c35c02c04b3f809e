use Rattle.aes_lanes.proofs.MoveLemmas.{block_of-shifted}
use Rattle.aes_lanes.proofs.rows.shift_rows.Goals as goal

pub returns-clause-planes : goal.returns-clause-planes
returns-clause-planes c = c.move_shifted.ensures.planes

pub returns-clause-blocks : goal.returns-clause-blocks
returns-clause-blocks c = block_of-shifted _ _ c.move_shifted.ensures
