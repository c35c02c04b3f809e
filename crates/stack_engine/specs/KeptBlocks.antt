-- What calls leave of the blocks that a stack keeps.
use Rattle.std.specs.Prelude.{◌≡◌, ◌≤◌, ℕ, false, length, map, All, Contains, None, IfSome}
use Rattle.std.specs.List.{slice_index_or, IsDistinct}
use Rattle.block_device.specs.Device.{Device}
use Rattle.stack_rules.specs.Names.{mapped}
use Rattle.stack_meaning.specs.Meaning.{said_at}
use Rattle.stack_meaning.specs.Reading.{MeetVerity}
use Rattle.verified_cache.specs.Cache.{same_key}
use Rattle.stack_lines.specs.Caches.{IsCached, IsCachedData}
use Rattle.stack_lines.specs.Forgetting.{DropsLast, IsUnwritten}
use Rattle.stack_lines.specs.Standing.{key_stands_on}
use Rattle.stack_engine.specs.Stacks.{StackRecord}

-- No more are kept than may be, and no two under one key. Each has the digest that it is kept under, as a hash block of its
-- line; and if the leaves beneath are steady, it is what is stored at its place. So has the data block that is kept, as one of its
-- line; if the capacity has none, none is kept.
pub record AreChecked (w : StackRecord) : Type 0 where
  pub few : length w.kept ≤ w.capacity.blocks
  pub distinct : IsDistinct same_key (map (λ b. b.key) w.kept)
  pub each : All (IsCached w.config w.leaves) w.kept
  pub last : IfSome w.last (IsCachedData w.config w.leaves)
  pub room : w.capacity.last ≡ false → w.last ≡ None

-- After a read of n sectors of mapped device d, from the first on: if no `verity` line is on their way those are kept
-- that were; and all that are kept were checked, whatever the leaves answered.
pub record ReadKeeps (w : StackRecord) (d first n : ℕ) (w' : StackRecord) : Type 0 where
  pub same : (MeetVerity (said_at w.config (mapped d)) first n → ⊥) → w'.kept ≡ w.kept
  pub checked : AreChecked w'

-- After a write: what is kept was kept before; and of a leaf that was written nothing is kept of a line whose hash device is
-- that leaf or is stacked on it. A leaf was written if its counter of writes, or its image if it is steady, isn't as it was. If one
-- was, no data block is kept.
pub record WriteKeeps (w w' : StackRecord) : Type 0 where
  pub adds_none : All (Contains w.kept) w'.kept
  pub written : (i : ℕ) (d : Device) → (IsUnwritten (slice_index_or w.leaves i d) (slice_index_or w'.leaves i d) → ⊥) → All (λ b. key_stands_on w.config i b.key ≡ false) w'.kept
  pub drops : DropsLast w.leaves w'.leaves w.last w'.last
