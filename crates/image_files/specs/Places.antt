-- Where an open image is, and how it uses its file.
use Rattle.std.specs.Prelude.{◌==◌, ◌&&◌, ◌||◌, Bool, true, false, Option, Some, None, is_some}
use Rattle.command_line.specs.PartBindings.{PartRecord}
use Rattle.device_adapters.specs.declared.part.Part.{Part}
use Rattle.image_files.specs.declared.file_use.FileUse.{FileUse}
use Rattle.image_files.specs.declared.images.OpenImage.{OpenImage}
use Rattle.image_files.specs.declared.placed_image.PlacedImage.{PlacedImage}
use Rattle.image_files.specs.OneFile.{is_block_device, is_one_file}

-- the part that a command line names as a part of a device
abbrev pub device_part : PartRecord → Part
device_part at = record { first = at.first; count = at.count }

-- an image without its place
abbrev pub image_at : {D : Type 0} → PlacedImage D → OpenImage D
image_at image = record { device = image.device; id = image.id }

-- how an image uses its file that was opened with this right
abbrev pub place_use : {D : Type 0} → Bool → PlacedImage D → FileUse
place_use writable image = record { id = image.id; writable = writable; part = image.place.part }

-- the image can't be made longer, as far as the opener tells: it is a block device, or a part of a file
abbrev pub has_own_size : {D : Type 0} → PlacedImage D → Bool
has_own_size image = is_block_device image.id || is_some image.place.part

-- both are all of a file, or the same part of one
abbrev pub is_one_part : Option Part → Option Part → Bool
is_one_part (Some a) (Some b) = (a.first == b.first) && (a.count == b.count)
is_one_part (Some a) None = false
is_one_part None (Some b) = false
is_one_part None None = true

-- both are one part of one file
abbrev pub is_one_image : {D : Type 0} → PlacedImage D → PlacedImage D → Bool
is_one_image a b = is_one_file a.id b.id && is_one_part a.place.part b.place.part
