-- Sums of blocks of 16 bytes.
use Rattle.std.specs.Prelude.{ℕ, List, map, slice_index, bit_xor}
use Rattle.std.specs.List.{range_with_len}

-- the sum of two blocks
unfoldable pub add_blocks : List ℕ → List ℕ → List ℕ
add_blocks a b = map (λ k. bit_xor (slice_index a k) (slice_index b k)) (range_with_len 0 16)
