use Rattle.std.proofs.Common.{Some}
use Rattle.repair_commands.proofs.rest.say_scanned.Given as goal

abbrev pub ghosts-scan_known-K-Former : goal.ghosts-scan_known-K-Former
ghosts-scan_known-K-Former g a = record { former = Some (g.D.BlockDev.state a.devices.0) }

abbrev pub ghosts-scan_known-L-Former : goal.ghosts-scan_known-L-Former
ghosts-scan_known-L-Former g a = record { former = Some (g.H.BlockDev.state a.devices.1) }
