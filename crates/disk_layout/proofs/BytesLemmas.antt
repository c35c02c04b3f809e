-- Numbers and UUIDs as bytes, and read again.
use Rattle.std.proofs.Common.{◌≡◌, ◌∙◌, ◌+◌, ◌/◌, ◌^◌, ◌<◌, ℕ, zero, suc, List, ◌++◌, ap, arith, length}
use Rattle.std.specs.Prelude.{slice_index, slice_range}
use Rattle.std.specs.Int.{byte_at, bytes_low_first, from_le_bytes, w32, w64}
use Rattle.std.proofs.lemmas.List.Elements.{All-append, All-cons, All-from_recursion, All-nil}
use Rattle.std.proofs.lemmas.Nat.{from_le_bytes-to_le_bytes_4, from_le_bytes-to_le_bytes_8, mod_below}
use Rattle.uuid.proofs.RoundTrips.{swap_twice}
use Rattle.uuid.specs.Parts.{swap_fields}
use Rattle.partition_table.specs.Fields.{number32, number64, uuid_at}
use Rattle.disk_layout.specs.Numbers.{bytes32, bytes64, stored_uuid}
use Rattle.disk_layout.specs.Written.{AreBytes, IsField}

pub byte-append : (xs ys : List ℕ) → AreBytes xs → AreBytes ys → AreBytes (xs ++ ys)
byte-append xs ys p q = All-append (λ b. b < 256) xs ys p q

byte_at-small : (i n : ℕ) → byte_at i n < 256
byte_at-small zero n = mod_below n 256 (omega arith)
byte_at-small (suc i) n = mod_below (n / 256 ^ suc i) 256 (omega arith)

low-bytes : (i k n : ℕ) → AreBytes (bytes_low_first i k n)
low-bytes i zero n = All-nil (λ b. b < 256)
low-bytes i (suc k) n = All-cons (λ b. b < 256) (byte_at i n) (bytes_low_first (suc i) k n) (byte_at-small i n) (low-bytes (suc i) k n)

pub bytes32-bytes : (n : ℕ) → AreBytes (bytes32 n)
unfolding bytes32
bytes32-bytes n = low-bytes 0 4 n

pub bytes64-bytes : (n : ℕ) → AreBytes (bytes64 n)
unfolding bytes64
bytes64-bytes n = low-bytes 0 8 n

pub stored-bytes : (uuid : List ℕ) → IsField 16 uuid → AreBytes (stored_uuid uuid)
unfolding stored_uuid
stored-bytes uuid field =
    let at : (k : ℕ) → k < 16 → slice_index uuid k < 256 = λ k within. field.1 k 0 (omega (arith, field.0, within)) in
    All-from_recursion (λ b. b < 256) (swap_fields uuid) (at 3 (omega arith), (at 2 (omega arith), (at 1 (omega arith), (at 0 (omega arith), (at 5 (omega arith), (at 4 (omega arith), (at 7 (omega arith), (at 6 (omega arith), (at 8 (omega arith), (at 9 (omega arith), (at 10 (omega arith), (at 11 (omega arith), (at 12 (omega arith), (at 13 (omega arith), (at 14 (omega arith), (at 15 (omega arith), tt))))))))))))))))

-- ---- read again

pub number32-back : (bytes : List ℕ) (at n : ℕ) → n < 2 ^ 32 → slice_range bytes at (at + 4) ≡ bytes32 n → number32 bytes at ≡ n
unfolding bytes32
number32-back bytes at n small is = ap (from_le_bytes w32) is ∙ from_le_bytes-to_le_bytes_4 n small

pub number64-back : (bytes : List ℕ) (at n : ℕ) → n < 2 ^ 64 → slice_range bytes at (at + 8) ≡ bytes64 n → number64 bytes at ≡ n
unfolding bytes64
number64-back bytes at n small is = ap (from_le_bytes w64) is ∙ from_le_bytes-to_le_bytes_8 n small

pub uuid-back : (bytes : List ℕ) (at : ℕ) (uuid : List ℕ) → length uuid ≡ 16 → slice_range bytes at (at + 16) ≡ stored_uuid uuid → uuid_at bytes at ≡ uuid
unfolding stored_uuid uuid_at
uuid-back bytes at uuid size is = ap swap_fields is ∙ swap_twice uuid size
