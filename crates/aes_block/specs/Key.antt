-- Keys (FIPS 197, 5): 128 or 256 bits.
use Rattle.std.specs.Prelude.{◌≡◌, ℕ, ◌⊎◌}

-- a length in bytes that a key may have: 16 or 32
abbrev pub IsKeyLength : ℕ → Type 0
IsKeyLength n = (n ≡ 16) ⊎ (n ≡ 32)
