-- The sum, by exclusive-or, of a round's blocks and of its parity.
use Rattle.std.specs.Prelude.{◌≡◌, ℕ, ◌-◌, ◌<◌, List, bit_xor}
use Rattle.reed_solomon.specs.Field.{total}
use Rattle.reed_solomon.specs.Sums.{part_sum, summand_beside}
use Rattle.fec_area.specs.declared.layout.Layout.{Layout}
use Rattle.fec_area.specs.Layouts.{IsLayout, IsParityOf, message_byte}

-- the sum of byte c of each block of a round, and of each block but the one at a position
abbrev pub message_sum : Layout → List (List ℕ) → List (List ℕ) → ℕ → ℕ → ℕ
message_sum l data_image hash_image round c = total (message_byte l data_image hash_image round c) (255 - l.roots)

abbrev pub message_sum_beside : Layout → List (List ℕ) → List (List ℕ) → ℕ → ℕ → ℕ → ℕ
message_sum_beside l data_image hash_image round c place = total (summand_beside (message_byte l data_image hash_image round c) place) (255 - l.roots)

-- byte c of each block of a round and the parity of codeword c sum to 0
abbrev pub RoundsSumToZeros : Type 0
RoundsSumToZeros =
    (l : Layout) → IsLayout l → (data_image hash_image : List (List ℕ)) → (round : ℕ) → (parity : List ℕ) → IsParityOf l data_image hash_image round parity
    → (c : ℕ) → c < l.block → bit_xor (message_sum l data_image hash_image round c) (part_sum l.roots parity c) ≡ 0

-- byte c of a block is the sum of byte c of the round's other blocks and of the parity of codeword c
abbrev pub OneLostBlockIsASum : Type 0
OneLostBlockIsASum =
    (l : Layout) → IsLayout l → (data_image hash_image : List (List ℕ)) → (round : ℕ) → (parity : List ℕ) → IsParityOf l data_image hash_image round parity
    → (c place : ℕ) → c < l.block → place < 255 - l.roots
    → bit_xor (message_sum_beside l data_image hash_image round c place) (part_sum l.roots parity c) ≡ message_byte l data_image hash_image round c place
