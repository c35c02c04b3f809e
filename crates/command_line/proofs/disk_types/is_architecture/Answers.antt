use Rattle.command_line.specs.DiskTypes.{is_architecture}
use Rattle.command_line.proofs.disk_types.is_architecture.Goals as goal

pub returns : goal.returns
unfolding is_architecture
returns c = c.is_one_of.ensures
