-- The steps of the cipher on the states of sixteen blocks. A state is stored with s ShiftRows pending: s ShiftRows of
-- a stored block give the state.
use Rattle.std.specs.Prelude.{◌≡◌, ℕ, ◌+◌, ◌<◌, List}
use Rattle.aes_block.specs.Blocks.{block, joined}
use Rattle.aes_block.specs.Cipher.{cipher_with, inverse_cipher_with}
use Rattle.aes_block.specs.Rounds.{add_round_key, round, last_round, inverse_round, last_inverse_round}
use Rattle.aes_lanes.specs.Constant.{add_constant}
use Rattle.aes_lanes.specs.Keys.{AreOneBlock}
use Rattle.aes_lanes.specs.Planes.{lane_block, shifted}

-- each block of the planes, after s ShiftRows, is round key k with the constant of SubBytes added
abbrev pub HoldKey : ℕ → List ℕ → List (List ℕ) → Type 0
HoldKey s k key = AreOneBlock s (add_constant k) key

-- a map is applied to each state; s is unchanged
abbrev pub EachGoesThrough : (List ℕ → List ℕ) → ℕ → List (List ℕ) → List (List ℕ) → Type 0
EachGoesThrough map s old new = (j : ℕ) → j < 16 → shifted s (lane_block new j) ≡ map (shifted s (lane_block old j))

-- round key k is added to each state
abbrev pub IsKeyed : ℕ → List ℕ → List (List ℕ) → List (List ℕ) → Type 0
IsKeyed s k old new = (j : ℕ) → j < 16 → shifted s (lane_block new j) ≡ add_round_key (shifted s (lane_block old j)) k

-- a round is applied to each state, which has one more ShiftRows pending afterwards
abbrev pub IsRound : ℕ → List ℕ → List (List ℕ) → List (List ℕ) → Type 0
IsRound s k old new = (j : ℕ) → j < 16 → shifted (s + 1) (lane_block new j) ≡ round (shifted s (lane_block old j)) k

-- the last round is applied to each state, which has none pending afterwards
abbrev pub IsLastRound : ℕ → List ℕ → List (List ℕ) → List (List ℕ) → Type 0
IsLastRound s k old new = (j : ℕ) → j < 16 → lane_block new j ≡ last_round (shifted s (lane_block old j)) k

-- the first step of the inverse cipher: round key k is added to each block; afterwards, the stored states have the
-- constant of SubBytes added
abbrev pub IsInverseStart : ℕ → List ℕ → List (List ℕ) → List (List ℕ) → Type 0
IsInverseStart s k old new = (j : ℕ) → j < 16 → add_constant (shifted s (lane_block new j)) ≡ add_round_key (lane_block old j) k

-- a round of the inverse cipher is applied to each state, which has one ShiftRows less pending afterwards
abbrev pub IsInverseRound : ℕ → List ℕ → List (List ℕ) → List (List ℕ) → Type 0
IsInverseRound s k old new = (j : ℕ) → j < 16
    → add_constant (shifted s (lane_block new j)) ≡ inverse_round (add_constant (shifted (s + 1) (lane_block old j))) k

-- the last round of the inverse cipher is applied to each state, which has one ShiftRows pending before it and none
-- afterwards
abbrev pub IsLastInverseRound : List ℕ → List (List ℕ) → List (List ℕ) → Type 0
IsLastInverseRound k old new = (j : ℕ) → j < 16 → lane_block new j ≡ last_inverse_round (add_constant (shifted 1 (lane_block old j))) k

-- sixteen blocks encrypted, and sixteen decrypted, with the key schedule w
abbrev pub sixteen_enciphered : ℕ → List ℕ → List ℕ → List ℕ
sixteen_enciphered rounds w blocks = joined (λ j. cipher_with rounds w (block blocks j)) 16

abbrev pub sixteen_deciphered : ℕ → List ℕ → List ℕ → List ℕ
sixteen_deciphered rounds w blocks = joined (λ j. inverse_cipher_with rounds w (block blocks j)) 16
