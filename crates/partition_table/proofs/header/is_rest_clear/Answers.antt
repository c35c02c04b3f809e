use Rattle.partition_table.proofs.header.is_rest_clear.Goals as goal

pub returns : goal.returns
returns c = c.are_zeros.ensures
