-- Sectors of a leaf or device, where blocks are read.
use Rattle.std.specs.Prelude.{◌≡◌, ℕ, ◌+◌, ◌<◌, ◌≤◌}
use Rattle.stack_rules.specs.declared.lower.Lower.{Lower}
use Rattle.stack_rules.specs.Records.{Configuration}
use Rattle.stack_rules.specs.Names.{size}
use Rattle.stack_lines.specs.declared.tree.Extent.{Extent}

-- some sectors, at most those of a block, which lie inside the leaf or device
pub record LiesInsideLower (c : Configuration) (extent : Extent) : Type 0 where
  pub some : 0 < extent.sectors
  pub few : extent.sectors ≤ 8
  pub inside : extent.first + extent.sectors ≤ size c extent.lower

-- n sectors of that one from its sector s on, which lie inside it
pub record IsExtent (c : Configuration) (on : Lower) (s n : ℕ) (extent : Extent) : Type 0 where
  pub value : extent ≡ record { lower = on; first = s; sectors = n }
  pub lies : LiesInsideLower c extent
