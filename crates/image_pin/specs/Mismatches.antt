-- Superblocks that describe a different tree than a pin.
use Rattle.std.specs.Prelude.{ℕ, ◌==◌, not, List, codes, Option, Some, None, if◌then◌else◌}
use Rattle.std.specs.Str.{bytes_eq}
use Rattle.verity_format.specs.Superblock.{SuperRecord}
use Rattle.image_pin.specs.declared.mismatch.Mismatch.{Mismatch}
use Rattle.image_pin.specs.declared.mismatch.Mismatch.TheVariants.{DataBlockSize, HashBlockSize, DataBlocks, Salt}
use Rattle.image_pin.specs.declared.pin.Pin.{Pin}

abbrev pub mismatch_number : Mismatch → ℕ
mismatch_number DataBlockSize = 20
mismatch_number HashBlockSize = 21
mismatch_number DataBlocks = 35
mismatch_number Salt = 22

abbrev pub mismatch_name : Mismatch → List ℕ
mismatch_name DataBlockSize = codes "OtherDataBlockSize"
mismatch_name HashBlockSize = codes "OtherHashBlockSize"
mismatch_name DataBlocks = codes "OtherDataBlocks"
mismatch_name Salt = codes "OtherSalt"

-- the first field of the superblock that differs from the pin
abbrev pub pin_mismatch : Pin → SuperRecord → Option Mismatch
pin_mismatch pin s =
    if not (s.data_block == pin.data_block) then Some DataBlockSize
    else if not (s.hash_block == pin.hash_block) then Some HashBlockSize
    else if not (s.blocks == pin.blocks) then Some DataBlocks
    else if not (bytes_eq s.salt pin.salt) then Some Salt
    else None
