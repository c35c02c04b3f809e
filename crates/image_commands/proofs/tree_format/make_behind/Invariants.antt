use Rattle.std.proofs.Common.{Some}
use Rattle.device_adapters.specs.Parts.{outside_of, part_behind}
use Rattle.image_commands.proofs.tree_format.make_behind.Given as goal

abbrev pub ghosts-make_beside : goal.ghosts-make_beside
ghosts-make_beside g a = record { outside = Some (outside_of (g.H.BlockDev.state a.hash_dev).image (part_behind (g.H.BlockDev.state a.hash_dev) a.first)) }
