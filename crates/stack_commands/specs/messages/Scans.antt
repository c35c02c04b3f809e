-- The sentences on `scan` and `copy`.
use Rattle.std.specs.Prelude.{ℕ, List, codes, Option, Some, None}
use Rattle.scan_commands.specs.declared.rescue_fault.PassFault.{PassFault}
use Rattle.scan_commands.specs.declared.rescue_fault.PassFault.TheVariants as pass
use Rattle.scan_commands.specs.declared.recovering_fault.RecoveringFault.{RecoveringFault}
use Rattle.scan_commands.specs.declared.recovering_fault.RecoveringFault.TheVariants as recovering
use Rattle.manual_pages.specs.messages.Maps.{map_message, unwritten_map_message}
use Rattle.manual_pages.specs.messages.Opening.{open_message}
use Rattle.stack_commands.specs.messages.Stacks.{stack_message}

-- a pass over a device that ends early
unfoldable pub pass_message : PassFault → Option (List ℕ)
pass_message pass.NoMemory = None
pass_message (pass.Unread file) = open_message file.fault
pass_message pass.TooLong = Some (codes "the map has more than 16 MiB; nothing was read: check the path of the map")
pass_message (pass.NoMap fault) = map_message fault
pass_message pass.Output = Some (codes "OUT can't be written or synced: check the space on its disk, and run the same command again")
pass_message (pass.Unwritten fault) = unwritten_map_message fault

-- a scan or a copy that ends early; none of lost sectors
unfoldable pub recovering_message : RecoveringFault → Option (List ℕ)
recovering_message recovering.NoMemory = None
recovering_message (recovering.Stack fault) = stack_message fault
recovering_message (recovering.OutputTooSmall needed) = Some (codes "OUT has fewer sectors than needed; nothing was written: extend it with 'truncate', and if it was cut, begin a new map")
recovering_message (recovering.Pass fault) = pass_message fault
recovering_message (recovering.Lost counts) = None
recovering_message recovering.LostAsSaid = None
recovering_message recovering.Write = None
