-- Eight messages hashed side by side: each word of the computation is a vector of eight words, one lane for each
-- message.
use Rattle.std.specs.Prelude.{◌≡◌, ℕ, ◌+◌, ◌-◌, ◌*◌, ◌<◌, ◌≤◌, List, [], ◌∷◌, ◌++◌, length, take, drop, slice_index, slice_index_or}
use Rattle.sha2.specs.Sha256.{compress, padded_message, rounds, schedule}

-- the word in lane j of vector k
abbrev pub word_of_lane : List (List ℕ) → ℕ → ℕ → ℕ
word_of_lane x k j = slice_index (slice_index_or x k []) j

-- the eight working variables of message j
abbrev pub state_of_lane : ℕ → List (List ℕ) → List ℕ
state_of_lane j x =
    word_of_lane x 0 j ∷ word_of_lane x 1 j ∷ word_of_lane x 2 j ∷ word_of_lane x 3 j
    ∷ word_of_lane x 4 j ∷ word_of_lane x 5 j ∷ word_of_lane x 6 j ∷ word_of_lane x 7 j ∷ []

-- word t of the message schedule of block b
abbrev pub scheduled_word : List ℕ → ℕ → ℕ
scheduled_word b t = slice_index (schedule b 48) t

-- lane j of the first n vectors holds the first n words of the message schedule of block b
abbrev pub AreWords : List ℕ → ℕ → ℕ → List (List ℕ) → Type 0
AreWords b n j w = (k : ℕ) → k < n → word_of_lane w k j ≡ slice_index (schedule b 48) k

-- message j: the prefix followed by block j of the consecutive blocks
abbrev pub message : List ℕ → List ℕ → ℕ → ℕ → List ℕ
message prefix blocks size j = prefix ++ take size (drop (j * size) blocks)

-- each lane advances from the state after t rounds to that after u rounds, on the block whose schedule its words hold
abbrev pub EachGoesOn : List (List ℕ) → ℕ → ℕ → List (List ℕ) → List (List ℕ) → Type 0
EachGoesOn words t u old new = (j : ℕ) → j < 8 → (b h : List ℕ) → AreWords b 64 j words
    → state_of_lane j old ≡ rounds h (schedule b 48) t → state_of_lane j new ≡ rounds h (schedule b 48) u

-- each lane's state is compressed with the lane's message block
abbrev pub EachTakesIn : (ℕ → List ℕ) → List (List ℕ) → List (List ℕ) → Type 0
EachTakesIn block old new = (j : ℕ) → j < 8 → state_of_lane j new ≡ compress (state_of_lane j old) (block j)

-- message block `index` of a padded message, 64 bytes

abbrev pub message_block : List ℕ → ℕ → List ℕ
message_block m index = take 64 (drop (index * 64) (padded_message m))

-- the bytes are message block `index` of each of the eight messages, consecutively
abbrev pub AreMessageBlocks : (ℕ → List ℕ) → ℕ → List ℕ → Type 0
AreMessageBlocks messages index bytes = (j : ℕ) → j < 8 → take 64 (drop (j * 64) bytes) ≡ message_block (messages j) index

-- the 64 bytes from offset `at` on equal the piece, which begins at offset `start`, as far as both overlap
abbrev pub HasPiece : ℕ → List ℕ → ℕ → List ℕ → Type 0
HasPiece at piece start bytes = (k : ℕ) → k < 64 → start ≤ at + k → at + k < start + length piece
    → slice_index bytes k ≡ slice_index piece (at + k - start)

-- the 64 bytes are message block `index` of the padded message
abbrev pub HasBytes : List ℕ → ℕ → List ℕ → Type 0
HasBytes m index bytes = (k : ℕ) → k < 64 → slice_index bytes k ≡ slice_index (padded_message m) (index * 64 + k)

-- the 64 bytes are those of message block `index` as far as they come before byte n of the message
abbrev pub HasBytesBefore : ℕ → List ℕ → ℕ → List ℕ → Type 0
HasBytesBefore n m index bytes = (k : ℕ) → k < 64 → index * 64 + k < n → slice_index bytes k ≡ slice_index (padded_message m) (index * 64 + k)

-- the 64 bytes are those of message block `index` from byte n of the message on
abbrev pub HasBytesFrom : ℕ → List ℕ → ℕ → List ℕ → Type 0
HasBytesFrom n m index bytes = (k : ℕ) → k < 64 → n ≤ index * 64 + k → slice_index bytes k ≡ slice_index (padded_message m) (index * 64 + k)
