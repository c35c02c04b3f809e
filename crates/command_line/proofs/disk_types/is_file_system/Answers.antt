use Rattle.command_line.specs.DiskTypes.{is_file_system}
use Rattle.command_line.proofs.disk_types.is_file_system.Goals as goal

pub returns : goal.returns
unfolding is_file_system
returns c = c.is_one_of.ensures
