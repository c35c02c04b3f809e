-- The master boot record in sector 0 (UEFI 2.10, 5.2.1 and 5.2.3, tables 5.1 to 5.4). A protective one has one record
-- of type 0xEE that begins at sector 1, and three records of zeros.
use Rattle.std.specs.Prelude.{ℕ, ◌+◌, ◌/◌, ◌%◌, ◌==◌, ◌&&◌, ◌||◌, not, Bool, List, replicate, slice_range, if◌then◌else◌}
use Rattle.std.specs.Str.{bytes_eq}
use Rattle.partition_table.specs.declared.mbr.Mbr.{Mbr}
use Rattle.partition_table.specs.declared.mbr.Mbr.TheVariants.{Protective, Missing, Foreign}
use Rattle.partition_table.specs.Fields.{number32}

-- the signature 0xAA55 is in bytes 510 and 511
abbrev pub is_signed : List ℕ → Bool
is_signed bytes = number32 bytes 508 / 65536 == 0xaa55

-- the type of the record at an offset; 0 means unused
abbrev pub record_type : List ℕ → ℕ → ℕ
record_type bytes at = number32 bytes (at + 4) % 256

-- a protective record, by its type and first sector
unfoldable pub is_protective : List ℕ → ℕ → Bool
is_protective bytes at = record_type bytes at == 0xee && number32 bytes (at + 8) == 1

unfoldable pub is_zero : List ℕ → ℕ → Bool
is_zero bytes at = bytes_eq (slice_range bytes at (at + 16)) (replicate 16 0)

-- one record is protective, and the other three are zeros
abbrev pub is_alone : List ℕ → ℕ → ℕ → ℕ → ℕ → Bool
is_alone bytes at a b c = is_protective bytes at && (is_zero bytes a && (is_zero bytes b && is_zero bytes c))

-- one of the four records is protective, and the others are zeros
unfoldable pub has_protective : List ℕ → Bool
has_protective bytes = is_alone bytes 446 462 478 494 || (is_alone bytes 462 446 478 494 || (is_alone bytes 478 446 462 494 || is_alone bytes 494 446 462 478))

unfoldable pub is_record_used : List ℕ → ℕ → Bool
is_record_used bytes at = not (record_type bytes at == 0)

-- one of the four records is used
unfoldable pub has_records : List ℕ → Bool
has_records bytes = is_record_used bytes 446 || (is_record_used bytes 462 || (is_record_used bytes 478 || is_record_used bytes 494))

-- `Missing` if there is no master boot record or all its records are unused, `Protective` if it is a protective one,
-- and otherwise `Foreign`
unfoldable pub mbr_of : List ℕ → Mbr
mbr_of bytes = if is_signed bytes && has_records bytes then (if has_protective bytes then Protective else Foreign) else Missing
