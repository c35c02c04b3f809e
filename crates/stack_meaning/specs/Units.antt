-- The encryption units of a `crypt` line: each is one data unit of XTS, of one or more sectors.
use Rattle.std.specs.Prelude.{ℕ, ◌+◌, ◌*◌, ◌/◌, ◌%◌, ◌^◌, ◌==◌, List, length, if◌then◌else◌}
use Rattle.aes_block.specs.Blocks.{joined}
use Rattle.dm_table.specs.declared.crypt.Crypt.{Crypt}
use Rattle.dm_table.specs.Crypt.{sector_size, iv_large_sectors}
use Rattle.xts_sector.specs.Units.{unit}
use Rattle.xts_sector.specs.Xts.{encrypted, decrypted}
use Rattle.stack_meaning.specs.declared.units.CryptUnits.{CryptUnits}
use Rattle.stack_meaning.specs.declared.units.UnitSize.{UnitSize}
use Rattle.stack_meaning.specs.declared.units.UnitSize.TheVariants.{One, Two, Four, Eight}
use Rattle.stack_meaning.specs.Outcomes.{part}

-- ---- the properties of a line that its units depend on

unfoldable pub size_sectors : UnitSize → ℕ
size_sectors One = 1
size_sectors Two = 2
size_sectors Four = 4
size_sectors Eight = 8

-- the size of a unit, given its bytes
unfoldable pub size_of : ℕ → UnitSize
size_of bytes = if bytes == 4096 then Eight else if bytes == 2048 then Four else if bytes == 1024 then Two else One

-- the units of a line with these arguments
abbrev pub units_of : Crypt → CryptUnits
units_of crypt = record { size = size_of (sector_size crypt); offset = crypt.base.offset; iv_offset = crypt.iv_offset; iv_large_sectors = iv_large_sectors crypt }

-- the number of sectors of a unit
abbrev pub per_unit : CryptUnits → ℕ
per_unit units = size_sectors units.size

-- the number of bytes of a unit
abbrev pub unit_bytes : CryptUnits → ℕ
unit_bytes units = 512 * per_unit units

-- ---- units

-- the number of unit k: that of its first sector, counted in units with `iv_large_sectors` and in sectors without
abbrev pub crypt_unit_number : CryptUnits → ℕ → ℕ
crypt_unit_number units k =
    let sector = (k * per_unit units + units.iv_offset) % 2 ^ 64 in
    if units.iv_large_sectors then sector / per_unit units else sector

-- unit k encrypted or decrypted with a key
abbrev pub encrypted_unit : CryptUnits → List ℕ → ℕ → List ℕ → List ℕ
encrypted_unit units key k bytes = encrypted key (crypt_unit_number units k) bytes

abbrev pub decrypted_unit : CryptUnits → List ℕ → ℕ → List ℕ → List ℕ
decrypted_unit units key k bytes = decrypted key (crypt_unit_number units k) bytes

-- sector s of the line, given the encrypted bytes of its unit
abbrev pub unit_part : CryptUnits → List ℕ → ℕ → List ℕ → List ℕ
unit_part units key s bytes = part (decrypted_unit units key (s / per_unit units) bytes) (s % per_unit units)

-- the first sector, on the lower device, of the unit that contains sector s of the line
abbrev pub unit_first : CryptUnits → ℕ → ℕ
unit_first units s = units.offset + s / per_unit units * per_unit units

-- consecutive units from unit k on, encrypted or decrypted
unfoldable pub encrypted_units : CryptUnits → List ℕ → ℕ → List ℕ → List ℕ
encrypted_units units key k bytes = joined (λ i. encrypted_unit units key (k + i) (unit (unit_bytes units) bytes i)) (length bytes / unit_bytes units)

unfoldable pub decrypted_units : CryptUnits → List ℕ → ℕ → List ℕ → List ℕ
decrypted_units units key k bytes = joined (λ i. decrypted_unit units key (k + i) (unit (unit_bytes units) bytes i)) (length bytes / unit_bytes units)
