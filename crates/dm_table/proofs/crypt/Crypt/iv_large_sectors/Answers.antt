use Rattle.dm_table.specs.Crypt.{iv_large_sectors}
use Rattle.dm_table.proofs.crypt.Crypt.iv_large_sectors.Goals as goal

pub returns : goal.returns
unfolding iv_large_sectors
returns c = c.is_kept.ensures
