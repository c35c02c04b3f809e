-- The tweaks of a part of a unit, which the code calls masks.
use Rattle.std.specs.Prelude.{◌≡◌, ℕ, ◌+◌, ◌*◌, ◌<◌, List}
use Rattle.aes_block.specs.Blocks.{block}
use Rattle.xts_sector.specs.Tweak.{times_alpha_power}

-- the masks are the tweaks of the 32 blocks of part i of the unit whose first block has the tweak `first`
abbrev pub HoldMasks : List ℕ → ℕ → List ℕ → Type 0
HoldMasks first i masks = (j : ℕ) → j < 32 → block masks j ≡ times_alpha_power (32 * i + j) first
