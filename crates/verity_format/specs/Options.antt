-- The superblock of an image that is formatted with given options.
use Rattle.std.specs.Prelude.{ℕ, List, Result}
use Rattle.block_device.specs.Call.{Call, DeviceDoes}
use Rattle.block_device.specs.Device.{Device}
use Rattle.verity_format.specs.declared.formatting.FormatFault.{FormatFault}
use Rattle.verity_format.specs.declared.formatting.FormatOptions.{FormatOptions}
use Rattle.verity_format.specs.Superblock.{SuperRecord}
use Rattle.verity_format.specs.Formatting.{IsFormatting, given_blocks}
use Rattle.verity_format.specs.Handing.{HandsFormat}

-- the superblock with these options; if the number of data blocks isn't given, all whole blocks of the data device
abbrev pub superblock_with : FormatOptions → ℕ → SuperRecord
superblock_with o sectors = record { uuid = o.uuid; data_block = o.data_block; hash_block = o.hash_block; blocks = given_blocks o.blocks o.data_block sectors; salt = o.salt }

-- formatting with these options, from the device states before and after
abbrev pub FormatsWith : {D H : Type 0} → (D → Device) → (H → Device) → FormatOptions → D → H → D → H → Result (List ℕ) FormatFault → Type 0
FormatsWith data_state hash_state options d h d' h' result =
    IsFormatting (superblock_with options (data_state d).size) (data_state d) (hash_state h) (data_state d') (hash_state h') result

-- all calls of formatting with these options
abbrev pub HandsWith : {D H : Type 0} → (D → Device) → (D → Call → D → Type 0) → (H → Device) → (H → Call → H → Type 0) → FormatOptions → D → H → D → H → Result (List ℕ) FormatFault → Type 0
HandsWith data_state asks hash_state does options d h d' h' result =
    HandsFormat (DeviceDoes data_state asks) (DeviceDoes hash_state does) (superblock_with options (data_state d).size) d h d' h' result
