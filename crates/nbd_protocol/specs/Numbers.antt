-- Numbers in network byte order, the most significant byte first.
use Rattle.std.specs.Prelude.{ℕ, ◌+◌, List, slice_range}
use Rattle.std.specs.Int.{w16, w32, w64, from_be_bytes, to_be_bytes}

-- the number in the 2, 4 or 8 bytes from an offset on
abbrev pub big_endian16 : List ℕ → ℕ → ℕ
big_endian16 bytes at = from_be_bytes w16 (slice_range bytes at (at + 2))

abbrev pub big_endian32 : List ℕ → ℕ → ℕ
big_endian32 bytes at = from_be_bytes w32 (slice_range bytes at (at + 4))

abbrev pub big_endian64 : List ℕ → ℕ → ℕ
big_endian64 bytes at = from_be_bytes w64 (slice_range bytes at (at + 8))

-- a number as 2, 4 or 8 bytes
unfoldable pub bytes16 : ℕ → List ℕ
bytes16 n = to_be_bytes w16 n

unfoldable pub bytes32 : ℕ → List ℕ
bytes32 n = to_be_bytes w32 n

unfoldable pub bytes64 : ℕ → List ℕ
bytes64 n = to_be_bytes w64 n
