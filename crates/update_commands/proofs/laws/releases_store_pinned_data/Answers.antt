use Rattle.update_commands.proofs.PinnedDataLemmas.{stored-data}
use Rattle.update_commands.proofs.laws.releases_store_pinned_data.Goals as goal

pub returns : goal.returns
returns c = stored-data c.valid_images_are_formatted.ensures
