use Rattle.repair_commands.proofs.ValidLemmas.{parity-repaired}
use Rattle.repair_commands.proofs.laws.images_repaired_by_parity_are_valid.Goals as goal

pub returns : goal.returns
returns g c = parity-repaired g.D.BlockDev.state
