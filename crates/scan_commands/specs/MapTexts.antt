-- What is printed when a pass over a device ends early.
use Rattle.std.specs.Prelude.{ℕ, List, codes}
use Rattle.io_fault_text.specs.Opening.{open_text}
use Rattle.io_fault_text.specs.Texts.{no_memory, refused_text}
use Rattle.rescue_map.specs.declared.fault.MapFault.{MapFault}
use Rattle.rescue_map.specs.declared.fault.MapFault.TheVariants as why
use Rattle.scan_commands.specs.declared.rescue_fault.PassFault.{PassFault}
use Rattle.scan_commands.specs.declared.rescue_fault.PassFault.TheVariants as pass
use Rattle.image_files.specs.declared.texts.ReplaceFault.{ReplaceFault}
use Rattle.image_files.specs.declared.texts.ReplaceFault.TheVariants as replace

-- why a text isn't a map of the device
abbrev pub no_map_text : MapFault → List ℕ
no_map_text why.NoMemory = no_memory
no_map_text why.Status = refused_text 24 (codes "MapStatus")
no_map_text why.Block = refused_text 25 (codes "MapBlock")
no_map_text why.PartSector = refused_text 26 (codes "MapPartSector")
no_map_text why.Gap = refused_text 27 (codes "MapGap")
no_map_text why.Overlap = refused_text 28 (codes "MapOverlap")
no_map_text why.Size = refused_text 29 (codes "MapSize")

-- why a map file isn't replaced
abbrev pub unreplaced_text : ReplaceFault → List ℕ
unreplaced_text replace.NoMemory = no_memory
unreplaced_text replace.Write = refused_text 31 (codes "MapWrite")
unreplaced_text replace.Sync = refused_text 32 (codes "MapSync")
unreplaced_text replace.Rename = refused_text 33 (codes "MapRename")

-- the line for a pass that ended early
abbrev pub pass_text : PassFault → List ℕ
pass_text pass.NoMemory = no_memory
pass_text (pass.Unread file) = open_text file
pass_text pass.TooLong = refused_text 30 (codes "MapTooLong")
pass_text (pass.NoMap fault) = no_map_text fault
pass_text pass.Output = codes "refused 2 Device\n"
pass_text (pass.Unwritten fault) = unreplaced_text fault
