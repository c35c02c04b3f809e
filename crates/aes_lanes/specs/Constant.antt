-- The constant of SubBytes (FIPS 197, 5.1.1), which is added together with the round keys.
use Rattle.std.specs.Prelude.{ℕ, List, bit_xor}
use Rattle.aes_block.specs.State.{byte_at, state_of}

-- a state with the constant added to each byte
unfoldable pub add_constant : List ℕ → List ℕ
add_constant s = state_of (λ r c. bit_xor (byte_at s r c) 0x63)
