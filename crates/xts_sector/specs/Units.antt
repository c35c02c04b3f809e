-- Consecutive units of equal size, each with its own number.
use Rattle.std.specs.Prelude.{ℕ, ◌*◌, List, length, take, drop, slice_index}
use Rattle.aes_block.specs.Blocks.{joined}
use Rattle.xts_sector.specs.Xts.{encrypted, decrypted}

-- unit i of consecutive units of `size` bytes
abbrev pub unit : ℕ → List ℕ → ℕ → List ℕ
unit size bytes i = take size (drop (size * i) bytes)

-- consecutive units of `size` bytes encrypted, unit i with number i of the list
unfoldable pub encrypted_numbered : List ℕ → List ℕ → ℕ → List ℕ → List ℕ
encrypted_numbered key numbers size bytes = joined (λ i. encrypted key (slice_index numbers i) (unit size bytes i)) (length numbers)

-- consecutive units of `size` bytes decrypted, unit i with number i of the list
unfoldable pub decrypted_numbered : List ℕ → List ℕ → ℕ → List ℕ → List ℕ
decrypted_numbered key numbers size bytes = joined (λ i. decrypted key (slice_index numbers i) (unit size bytes i)) (length numbers)
