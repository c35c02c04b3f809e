use Rattle.assemble_commands.proofs.DataLawLemmas.{assembled-data}
use Rattle.assemble_commands.proofs.laws.assembled_data_is_read.Goals as goal

pub returns : goal.returns
returns g c = assembled-data _ _ _ _ g.met.I.Dev.BlockDev.whole c.formatted_images_are_former.ensures c.formatted_data_is_read.ensures
