-- The fields of headers. Little-endian numbers are those of `partition_table`.
use Rattle.std.specs.Prelude.{ℕ, ◌+◌, ◌*◌, ◌^◌, nat_lt, List, slice_range, Option, Some, None, if◌then◌else◌}
use Rattle.std.specs.Int.{w32, w64, from_be_bytes}

-- the number stored in 4 or 8 bytes from an offset on, the most significant byte first
abbrev pub big_endian32 : List ℕ → ℕ → ℕ
big_endian32 bytes at = from_be_bytes w32 (slice_range bytes at (at + 4))

abbrev pub big_endian64 : List ℕ → ℕ → ℕ
big_endian64 bytes at = from_be_bytes w64 (slice_range bytes at (at + 8))

-- the identifier stored in 16 bytes from an offset on, in the byte order of its text form
abbrev pub identifier : List ℕ → ℕ → List ℕ
identifier bytes at = slice_range bytes at (at + 16)

-- the size of a block of 2 to that power bytes; 0 if it is larger than 65,536
abbrev pub block_bytes : ℕ → ℕ
block_bytes exponent = if nat_lt 16 exponent then 0 else 2 ^ exponent

-- the size of so many blocks, if it fits in 64 bits
abbrev pub blocks_product : ℕ → ℕ → Option ℕ
blocks_product blocks each = if nat_lt (blocks * each) (2 ^ 64) then Some (blocks * each) else None
