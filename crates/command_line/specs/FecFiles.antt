-- The parity of an image, as arguments say it.
use Rattle.std.specs.Prelude.{◌&&◌, not, nat_le, is_some, List, None, Option, Some, Ok, ℕ, codes, if◌then◌else◌}
use Rattle.dm_table.specs.Names.{is_device}
use Rattle.dm_table.specs.Numbers.{number, number_if}
use Rattle.command_line.specs.Misuses.{Reading, misused, wanted, when}
use Rattle.command_line.specs.declared.fec_file.FecDevice.{FecDevice}
use Rattle.command_line.specs.declared.fec_file.FecFile.{FecFile}
use Rattle.command_line.specs.declared.misuse.Cause.TheVariants.{DeviceName, Roots, WithoutFec}

-- the path of its file, and how many bytes of parity a codeword has
pub record FecRecord : Type 0 where
  pub path : List ℕ
  pub roots : ℕ

-- the device argument of the parity in a table line, and how many bytes of parity a codeword has
pub record FecDeviceRecord : Type 0 where
  pub device : List ℕ
  pub roots : ℕ

-- 2 unless the word says another number up to 24
unfoldable pub roots_of : Option (List ℕ) → Reading ℕ
roots_of None = Ok 2
roots_of (Some word) = wanted (codes "--fec-roots") Roots (number_if (λ n. nat_le 2 n && nat_le n 24) (number word))

-- by the values of `--fec` and `--fec-roots`
unfoldable pub fec_file_of : Option (List ℕ) → Option (List ℕ) → Reading FecRecord
fec_file_of None roots = misused (codes "--fec-roots") WithoutFec
fec_file_of (Some path) roots = when (roots_of roots) (λ n. Ok (record { path = path; roots = n }))

-- by the values of `--fec` and `--fec-roots`; no parity if neither option is given
unfoldable pub fec_choice_of : Option (List ℕ) → Option (List ℕ) → Reading (Option FecRecord)
fec_choice_of path roots =
    if not (is_some path) && not (is_some roots) then Ok None
    else when (fec_file_of path roots) (λ fec. Ok (Some fec))

-- by the values of `--fec` and `--fec-roots`, of which the first is a device argument
unfoldable pub fec_device_of : Option (List ℕ) → Option (List ℕ) → Reading FecDeviceRecord
fec_device_of device roots =
    when (fec_file_of device roots) (λ fec. if is_device fec.path then Ok (record { device = fec.path; roots = fec.roots }) else misused (codes "--fec") DeviceName)

-- what the program's own values say
abbrev pub fec_record : FecFile → FecRecord
fec_record file = record { path = file.path.now; roots = file.roots }

abbrev pub fec_device_record : FecDevice → FecDeviceRecord
fec_device_record fec = record { device = fec.device.now; roots = fec.roots }
