use Rattle.verity_format.proofs.lemmas.DeviceLemmas.{only_read-then}
use Rattle.update_commands.proofs.listing.list_old.Goals as goal

pub returns-in-Ok : goal.returns-in-Ok
returns-in-Ok g c = only_read-then c.find_tree.ensures.read c.list_alike.ensures

pub returns-in-Err : goal.returns-in-Err
returns-in-Err g c = c.find_tree.ensures.read
