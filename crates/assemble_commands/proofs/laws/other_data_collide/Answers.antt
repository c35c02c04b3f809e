use Rattle.assemble_commands.proofs.DataLawLemmas.{other-data}
use Rattle.assemble_commands.proofs.laws.other_data_collide.Goals as goal

pub returns : goal.returns
returns g c = other-data _ _ _ _ g.met.I.Dev.BlockDev.whole c.forged_sectors_collide.ensures
