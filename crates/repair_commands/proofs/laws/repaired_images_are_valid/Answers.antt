use Rattle.repair_commands.proofs.ValidLemmas.{repaired-valid}
use Rattle.repair_commands.proofs.laws.repaired_images_are_valid.Goals as goal

pub returns : goal.returns
returns c = repaired-valid
