-- The state (FIPS 197, 3.4): byte i of a block is in row i % 4 and column i / 4.
use Rattle.std.specs.Prelude.{◌≡◌, ℕ, ◌+◌, ◌*◌, ◌/◌, ◌%◌, ◌<◌, List, length, map, slice_index}
use Rattle.std.specs.List.{range_with_len}

-- each element of the list is a byte
abbrev pub IsBytes : List ℕ → Type 0
IsBytes bytes = (i : ℕ) → slice_index bytes i < 256

-- a block: 16 bytes
pub record IsBlock (block : List ℕ) : Type 0 where
  pub len : length block ≡ 16
  pub bytes : IsBytes block

-- the byte in a row and a column
abbrev pub byte_at : List ℕ → ℕ → ℕ → ℕ
byte_at state row column = slice_index state (4 * column + row)

-- the state whose byte in each row and column is `f row column`
unfoldable pub state_of : (ℕ → ℕ → ℕ) → List ℕ
state_of f = map (λ i. f (i % 4) (i / 4)) (range_with_len 0 16)
