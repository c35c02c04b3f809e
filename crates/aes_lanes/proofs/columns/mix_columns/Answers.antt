use Rattle.aes_lanes.proofs.MoveLemmas.{block_of-mixed}
use Rattle.aes_lanes.proofs.columns.mix_columns.Goals as goal

pub double-doubled-requires : goal.double-doubled-requires
double-doubled-requires c = c.add-pairs.ensures.planes

pub returns-clause-planes : goal.returns-clause-planes
returns-clause-planes c = c.add.ensures.planes

pub returns-clause-blocks : goal.returns-clause-blocks
returns-clause-blocks c =
    block_of-mixed c.args.shifts _ _ _ _ _ _ _ c.move_below_1-next.ensures c.add-pairs.ensures c.double-doubled.ensures.bytes c.add-three.ensures c.move_below_2-others.ensures c.add.ensures
