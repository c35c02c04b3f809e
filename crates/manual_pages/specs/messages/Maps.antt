-- The sentences on map files.
use Rattle.std.specs.Prelude.{ℕ, List, codes, Option, Some, None}
use Rattle.rescue_map.specs.declared.fault.MapFault.{MapFault}
use Rattle.rescue_map.specs.declared.fault.MapFault.TheVariants as map
use Rattle.image_files.specs.declared.texts.ReplaceFault.{ReplaceFault}
use Rattle.image_files.specs.declared.texts.ReplaceFault.TheVariants as replace

-- a file that is no map of the device
unfoldable pub map_message : MapFault → Option (List ℕ)
map_message map.Status = Some (codes "the map has no status line; nothing was read: check the path of the map")
map_message map.Block = Some (codes "a line of the map isn't a position, a size and a status; nothing was read")
map_message map.PartSector = Some (codes "a block of the map is empty; nothing was read")
map_message map.Gap = Some (codes "blocks of the map leave a gap; nothing was read")
map_message map.Overlap = Some (codes "blocks of the map overlap; nothing was read")
map_message map.Size = Some (codes "the map is of a device of another size; nothing was read: check the path of the map")
map_message map.NoMemory = None

-- a map that can't be written
unfoldable pub unwritten_map_message : ReplaceFault → Option (List ℕ)
unwritten_map_message replace.Write = Some (codes "the new map can't be written: check the space on its disk; the file has the map before it")
unwritten_map_message replace.Sync = Some (codes "the new map can't be synced: 'dmesg' may say why; the file has it or the map before it")
unwritten_map_message replace.Rename = Some (codes "the new map can't get its name: check the permissions of its directory; the file has the map before it")
unwritten_map_message replace.NoMemory = None
