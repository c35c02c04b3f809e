use Rattle.update_commands.proofs.FinishedLemmas.{files-held}
use Rattle.update_commands.proofs.laws.updated_images_hold_the_release.Goals as goal

pub returns : goal.returns
returns g c = files-held _ _ c.repaired_images_are_valid.ensures
