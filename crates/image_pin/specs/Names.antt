-- The names of a pin's lines.
use Rattle.std.specs.Prelude.{codes, Option, Some, None, if◌then◌else◌}
use Rattle.std.specs.Str.{bytes_eq}
use Rattle.dm_table.specs.Words.{Word}
use Rattle.image_pin.specs.declared.name.PinName.{PinName}
use Rattle.image_pin.specs.declared.name.PinName.TheVariants.{Root, Salt, DataBlockSize, HashBlockSize, DataBlocks}

abbrev pub name_text : PinName → Word
name_text Root = codes "root"
name_text Salt = codes "salt"
name_text DataBlockSize = codes "data_block_size"
name_text HashBlockSize = codes "hash_block_size"
name_text DataBlocks = codes "data_blocks"

-- the field with this name
abbrev pub name_of : Word → Option PinName
name_of word =
    if bytes_eq word (codes "root") then Some Root
    else if bytes_eq word (codes "salt") then Some Salt
    else if bytes_eq word (codes "data_block_size") then Some DataBlockSize
    else if bytes_eq word (codes "hash_block_size") then Some HashBlockSize
    else if bytes_eq word (codes "data_blocks") then Some DataBlocks
    else None
