-- The tweaks of the first blocks of units, computed for sixteen units at once.
use Rattle.std.specs.Prelude.{◌≡◌, ℕ, ◌/◌, ◌%◌, ◌<◌, List, length, slice_index}
use Rattle.aes_block.specs.Blocks.{block}
use Rattle.xts_sector.specs.Xts.{tweak}

-- the blocks hold the first tweaks of the group of sixteen units that unit i is in, as far as there are numbers
abbrev pub HoldTweaks : List ℕ → List ℕ → ℕ → List ℕ → Type 0
HoldTweaks key numbers i tweaks = (k : ℕ) → k / 16 ≡ i / 16 → k < length numbers → block tweaks (k % 16) ≡ tweak key (slice_index numbers k) 0
