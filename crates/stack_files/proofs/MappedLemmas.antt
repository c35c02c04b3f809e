-- Texts that are no map of a device, and images that are opened with one.
use Rattle.std.proofs.Common.{◌≡◌, ◌≤◌, ◌+◌, ℕ, List, Option, None, Some, Err, inl, inr, subst, sym}
use Rattle.std.specs.Prelude.{option_map}
use Rattle.block_device.specs.Device.{Device}
use Rattle.block_device.specs.declared.open_fault.OpenFault.{OpenFault}
use Rattle.block_device.specs.declared.open_fault.OpenFault.TheVariants as open_fault
use Rattle.allocation.specs.Refusal.{IsOutOfMemory}
use Rattle.rescue_map.specs.declared.fault.MapFault.{MapFault}
use Rattle.rescue_map.specs.declared.fault.MapFault.TheVariants.{NoMemory, Status, Block, PartSector, Gap, Overlap, Size}
use Rattle.rescue_map.specs.MapText.{IsMapAnswer, map_of}
use Rattle.command_line.specs.Bindings.{mapped}
use Rattle.command_line.specs.PartBindings.{PartRecord}
use Rattle.device_adapters.specs.declared.part.Part.{Part}
use Rattle.image_files.specs.declared.file_use.FileUse.{FileUse}
use Rattle.image_files.specs.declared.parts.UnopenedPart.{UnopenedPart}
use Rattle.image_files.specs.declared.parts.UnopenedPart.TheVariants.{File, Outside as OutsideFile}
use Rattle.image_files.specs.Opener.{Calls, IsLacking}
use Rattle.image_files.specs.Places.{device_part}
use Rattle.stack_files.specs.declared.opening_fault.OpeningFault.{OpeningFault}
use Rattle.stack_files.specs.declared.opening_fault.OpeningFault.TheVariants as opening_fault
use Rattle.stack_files.specs.MappedFiles.{IsNoMap, RefusesBesideMap, RefusesMapped, map_ending}
use Rattle.stack_files.specs.Openings.{IsBackingEnd, part_ending}
use Rattle.stack_files.specs.WholeFiles.{IsWithin}

-- a fault of the map
pub no-map : (text : List ℕ) (sectors : ℕ) (fault : MapFault) → IsMapAnswer (Err fault) (map_of sectors text) → IsNoMap text sectors (map_ending fault)
no-map text sectors NoMemory answer = answer
no-map text sectors Status answer = inr (Status, answer)
no-map text sectors Block answer = inr (Block, answer)
no-map text sectors PartSector answer = inr (PartSector, answer)
no-map text sectors Gap answer = inr (Gap, answer)
no-map text sectors Overlap answer = inr (Overlap, answer)
no-map text sectors Size answer = inr (Size, answer)

-- memory that ran out
pub no-memory : (text : List ℕ) (sectors : ℕ) (fault : OpenFault) → fault ≡ open_fault.NoMemory → IsOutOfMemory 1 → IsNoMap text sectors fault
no-memory text sectors fault is refused = subst (IsNoMap text sectors) (sym is) refused

-- what is within a device is within one that lacks some of its sectors
pub within-lacking : (device rest : Device) (part : Option Part) → IsLacking device rest → IsWithin device part → IsWithin rest part
within-lacking device rest None lacking inside = tt
within-lacking device rest (Some part) lacking inside = subst (λ (n : ℕ). part.first + part.count ≤ n) (sym lacking.size) inside

-- an image that isn't opened after its map was read
pub beside-map : {S D : Type 0} (w : Calls S D) (files : List FileUse) (path map_file : List ℕ) (part : Option Part) (unopened : UnopenedPart)
    → RefusesBesideMap w files path map_file part unopened → RefusesMapped w files path map_file part (part_ending unopened)
beside-map w files path map_file part (File file) refused = inr (inl refused)
beside-map w files path map_file part (OutsideFile at) refused = refused

-- it ends the opening of what its name is bound to
pub mapped-end : {S D : Type 0} (w : Calls S D) (files : List FileUse) (path map_file : List ℕ) (at : Option PartRecord) (fault : OpeningFault)
    → RefusesMapped w files path map_file (option_map device_part at) fault → IsBackingEnd w files (mapped path map_file at) fault
mapped-end w files path map_file at opening_fault.NoMemory refused = absurd refused
mapped-end w files path map_file at opening_fault.TooLong refused = absurd refused
mapped-end w files path map_file at (opening_fault.Open unopened) refused = refused
mapped-end w files path map_file at (opening_fault.Outside path') refused = refused
