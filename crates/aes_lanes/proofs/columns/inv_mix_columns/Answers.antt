use Rattle.aes_lanes.proofs.UnmixLemmas.{block_of-unmixed}
use Rattle.aes_lanes.proofs.columns.inv_mix_columns.Goals as goal

pub returns-clause-blocks : goal.returns-clause-blocks
returns-clause-blocks c =
    block_of-unmixed c.args.shifts _ _ _ _ _ _ _ c.move_below_2-others.ensures c.add-pairs.ensures c.double-twice.ensures.bytes c.double-four.ensures.bytes c.add-prepared.ensures c.mix_columns.ensures.blocks
