-- The fields of a partition table as bytes. Numbers are little-endian.
use Rattle.std.specs.Prelude.{ℕ, ◌-◌, List, ◌++◌, length, replicate, take}
use Rattle.std.specs.Int.{w32, w64, to_le_bytes}
use Rattle.uuid.specs.Parts.{swap_fields}

-- a number as 4 or 8 bytes
unfoldable pub bytes32 : ℕ → List ℕ
bytes32 n = to_le_bytes w32 n

unfoldable pub bytes64 : ℕ → List ℕ
bytes64 n = to_le_bytes w64 n

-- a UUID, given in the byte order of its text form: its first three fields are stored little-endian
unfoldable pub stored_uuid : List ℕ → List ℕ
stored_uuid uuid = swap_fields uuid

-- n bytes: these, with zeros after them
abbrev pub padded : ℕ → List ℕ → List ℕ
padded n bytes = take n bytes ++ replicate (n - length bytes) 0

-- the largest allocation for a table, in bytes
abbrev pub table_room : ℕ
table_room = 32768
