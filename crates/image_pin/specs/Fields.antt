-- The values of a pin's lines, by name.
use Rattle.std.specs.Prelude.{ℕ, ◌/◌, nat_lt, Bool, true, false, List, [], codes, length, is_some, Option, Some, None, Result, Ok, Err, if◌then◌else◌}
use Rattle.std.specs.Result.{result_ok}
use Rattle.std.specs.Str.{bytes_eq}
use Rattle.hex.specs.Hex.{decode_sized}
use Rattle.dm_table.specs.Numbers.{number, number_if}
use Rattle.dm_table.specs.Reading.{◌>>=◌}
use Rattle.dm_table.specs.Words.{Word}
use Rattle.image_pin.specs.declared.fault.PinFault.{PinFault}
use Rattle.image_pin.specs.declared.fault.PinFault.TheVariants as fault
use Rattle.image_pin.specs.declared.fields.PinFields.{PinFields}
use Rattle.image_pin.specs.declared.name.PinName.{PinName}
use Rattle.image_pin.specs.declared.name.PinName.TheVariants.{Root, Salt, DataBlockSize, HashBlockSize, DataBlocks}
use Rattle.image_pin.specs.declared.pin.Pin.{Pin}

-- 64 hexadecimal digits as 32 bytes
unfoldable pub root_of : Word → Option (List ℕ)
root_of word = result_ok (decode_sized word 32)

-- `-` for no bytes, or at most 512 hexadecimal digits
unfoldable pub salt_of : Word → Option (List ℕ)
salt_of word =
    if bytes_eq word (codes "-") then Some []
    else if nat_lt 512 (length word) then None
    else result_ok (decode_sized word (length word / 2))

-- a number below 2^32
unfoldable pub block_size_of : Word → Option ℕ
block_size_of word = number_if (λ n. nat_lt n 4294967296) (number word)

-- no values
abbrev pub no_fields : PinFields
no_fields = record { root = None; salt = None; data_block = None; hash_block = None; blocks = None }

-- the value of a name, unless an earlier line has the same name
abbrev pub once : {A : Type 0} → PinName → Bool → Option A → Result A PinFault
once name true value = Err (fault.Repeated name)
once name false None = Err (fault.Value name)
once name false (Some value) = Ok value

-- the fields with the value of this name added
abbrev pub set_field : PinFields → PinName → Word → Result PinFields PinFault
set_field fields Root word = once Root (is_some fields.root) (root_of word) >>= (λ root. Ok (record fields { root = Some root }))
set_field fields Salt word = once Salt (is_some fields.salt) (salt_of word) >>= (λ salt. Ok (record fields { salt = Some salt }))
set_field fields DataBlockSize word = once DataBlockSize (is_some fields.data_block) (block_size_of word) >>= (λ size. Ok (record fields { data_block = Some size }))
set_field fields HashBlockSize word = once HashBlockSize (is_some fields.hash_block) (block_size_of word) >>= (λ size. Ok (record fields { hash_block = Some size }))
set_field fields DataBlocks word = once DataBlocks (is_some fields.blocks) (number word) >>= (λ blocks. Ok (record fields { blocks = Some blocks }))

-- the value of a name, which must be present
abbrev pub needed : {A : Type 0} → PinName → Option A → Result A PinFault
needed name None = Err (fault.Missing name)
needed name (Some value) = Ok value

-- the pin with these fields; none may be missing
abbrev pub finish : PinFields → Result Pin PinFault
finish fields = do
  root ← needed Root fields.root
  salt ← needed Salt fields.salt
  data_block ← needed DataBlockSize fields.data_block
  hash_block ← needed HashBlockSize fields.hash_block
  blocks ← needed DataBlocks fields.blocks
  Ok (record { root = root; salt = salt; data_block = data_block; hash_block = hash_block; blocks = blocks })
