-- Whether an image may be made of two devices.
use Rattle.std.specs.Prelude.{◌≡◌, ◌<◌, ◌≤◌, IsTrue, Some, None}
use Rattle.block_device.specs.Device.{Device}
use Rattle.verity_format.specs.declared.formatting.FormatFault.{FormatFault}
use Rattle.verity_format.specs.declared.formatting.FormatOptions.{FormatOptions}
use Rattle.verity_format.specs.Formatting.{format_refusal}
use Rattle.verity_format.specs.Image.{image_sectors}
use Rattle.verity_format.specs.Options.{superblock_with}
use Rattle.verity_format.specs.Superblock.{shape_of}

-- no refusal applies to what is to be made, and the hash device has room for it and may be written
pub record IsAllowed (options : FormatOptions) (data_dev hash_dev : Device) : Type 0 where
  pub none : format_refusal (superblock_with options data_dev.size) data_dev hash_dev ≡ None
  pub some : 0 < image_sectors (shape_of (superblock_with options data_dev.size))
  pub room : image_sectors (shape_of (superblock_with options data_dev.size)) ≤ hash_dev.size
  pub may_write : IsTrue hash_dev.may_write

-- the first refusal that applies
abbrev pub IsRefusedAs : FormatOptions → Device → Device → FormatFault → Type 0
IsRefusedAs options data_dev hash_dev fault = format_refusal (superblock_with options data_dev.size) data_dev hash_dev ≡ Some fault
