-- Which of the blocks that are kept a write forgets.
use Rattle.std.specs.Prelude.{◌≡◌, ℕ, ◌==◌, ◌⊎◌, Bool, false, IsTrue, List, All, Option, None}
use Rattle.std.specs.List.{list_any, slice_index_or}
use Rattle.block_device.specs.Device.{Device}
use Rattle.stack_rules.specs.Records.{Configuration}
use Rattle.verified_cache.specs.Cache.{CachedBlock, blocks_without}
use Rattle.stack_lines.specs.Standing.{key_stands_on}

-- a device that wasn't written: its counter of writes is as it was, and so is its image if it is steady
pub record IsUnwritten (old new : Device) : Type 0 where
  pub steady : new.steady ≡ old.steady
  pub writes : new.writes ≡ old.writes
  pub image : IsTrue old.steady → new.image ≡ old.image

-- No leaf was written but some of these, maybe none. Of what was kept before all is kept in its order but the blocks of lines
-- whose hash device is one of those or is stacked on one, and nothing else is kept.
pub record Forgets (c : Configuration) (these : ℕ → Bool) (old new : List Device) (before after : List CachedBlock) : Type 0 where
  pub written : List ℕ
  pub within : All (λ i. IsTrue (these i)) written
  pub others : (i : ℕ) (d : Device) → list_any (λ j. i == j) written ≡ false → IsUnwritten (slice_index_or old i d) (slice_index_or new i d)
  pub kept : after ≡ blocks_without (λ key. list_any (λ i. key_stands_on c i key) written) before

-- No leaf was written, and the data block that was kept still is; or no data block is kept.
pub record DropsLast (old new : List Device) (before after : Option CachedBlock) : Type 0 where
  pub is : (((i : ℕ) (d : Device) → IsUnwritten (slice_index_or old i d) (slice_index_or new i d)) × (after ≡ before)) ⊎ (after ≡ None)
