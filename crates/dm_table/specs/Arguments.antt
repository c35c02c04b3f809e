-- Arguments that several targets share: a device, a number, a device with an offset, and bytes in hexadecimal.
use Rattle.std.specs.Prelude.{ℕ, ◌^◌, ◌<◌, IsTrue, if◌then◌else◌, List, Ok, Err, ok_or}
use Rattle.std.specs.Result.{result_ok}
use Rattle.hex.specs.Hex.{decode_sized}
use Rattle.dm_table.specs.declared.table.Base.{Base}
use Rattle.dm_table.specs.declared.fault.TextKind.{TextKind}
use Rattle.dm_table.specs.declared.fault.TextKind.TheVariants as kinds
use Rattle.dm_table.specs.Words.{Word}
use Rattle.dm_table.specs.Numbers.{number}
use Rattle.dm_table.specs.Names.{is_device}
use Rattle.dm_table.specs.Reading.{Read, ◌>>=◌}

abbrev pub device_at : Word → Read Word
device_at word = if is_device word then Ok word else Err kinds.Name

abbrev pub number_at : Word → Read ℕ
number_at word = ok_or (number word) kinds.Number

-- `<dev> <offset>`
unfoldable pub base_at : Word → Word → Read Base
base_at name offset = do
  device ← device_at name
  sector ← number_at offset
  Ok (record { device = device; offset = sector })

-- a device argument and an offset in sectors
pub record IsBaseOfGrammar (base : Base) : Type 0 where
  pub device : IsTrue (is_device base.device)
  pub offset : base.offset < 2 ^ 64

-- `count` bytes as twice as many hexadecimal digits, in upper or lower case
unfoldable pub bytes_at : ℕ → TextKind → Word → Read (List ℕ)
bytes_at count kind word = ok_or (result_ok (decode_sized word count)) kind
