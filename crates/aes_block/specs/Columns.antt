-- A state as four words: word c is column c, with row r in bits 8r to 8r + 7.
use Rattle.std.specs.Prelude.{◌≡◌, ℕ, ◌*◌, ◌/◌, ◌%◌, ◌^◌, ◌<◌, List, slice_index}
use Rattle.aes_block.specs.State.{byte_at, state_of}

-- the byte of a column in a row
abbrev pub row_of : ℕ → ℕ → ℕ
row_of column row = column / 2 ^ (8 * row) % 256

-- the state of four columns
unfoldable pub state_of_columns : List ℕ → List ℕ
state_of_columns columns = state_of (λ r c. row_of (slice_index columns c) r)

-- the word is column c of a state
abbrev pub IsColumn : List ℕ → ℕ → ℕ → Type 0
IsColumn s c word = (row : ℕ) → row < 4 → row_of word row ≡ byte_at s row c
