-- The printed form of a path.
use Rattle.std.specs.Prelude.{ℕ, ◌==◌, ◌||◌, nat_lt, List, [], ◌∷◌, ◌++◌, codes, Bool, if◌then◌else◌}
use Rattle.std.specs.List.{flat_map}
use Rattle.hex.specs.Hex.{encode_lower}

-- a control character: a byte below the space, or DEL
abbrev pub is_control : ℕ → Bool
is_control b = nat_lt b 32 || b == 127

-- a control character is printed as `\xHH`, any other byte as it is
abbrev pub shown_byte : ℕ → List ℕ
shown_byte b = if is_control b then codes "\\x" ++ encode_lower (b ∷ []) else b ∷ []

-- the printed form of a path, which always stays on one line
unfoldable pub shown_path : List ℕ → List ℕ
shown_path bytes = flat_map shown_byte bytes
