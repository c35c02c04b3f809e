use Rattle.update_commands.proofs.EarlyEndLemmas.{early-none}
use Rattle.update_commands.proofs.laws.early_ends_leave_no_superblock.Goals as goal

pub returns : goal.returns
returns c = early-none c.other_sectors_stay.ensures
