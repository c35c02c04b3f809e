-- Data blocks that are read and digested in pieces.
use Rattle.std.specs.Prelude.{◌≡◌, ℕ, ◌+◌, ◌-◌, ◌*◌, ◌/◌, ◌<◌, ◌≤◌, min, ◌^◌, Bool, true, false, IsTrue, List, length, map, Option, Some, None}
use Rattle.block_device.specs.Device.{Device}
use Rattle.tree_shape.specs.Digests.{digest}
use Rattle.tree_shape.specs.Shape.{ShapeRecord, is_block_size}
use Rattle.verity_format.specs.Blocks.{IsFullRead, block_at, blocks_at}
use Rattle.tree_survey.specs.Failing.{HasFailedRead}

-- n blocks of that size, together so many bytes, are within the device from block `first` on
pub record LieOnDevice (device : Device) (block first n bytes : ℕ) : Type 0 where
  pub size : IsTrue (is_block_size block)
  pub some : 0 < n
  pub run : bytes ≡ n * block
  pub inside : (first + n) * (block / 512) ≤ min device.size (2 ^ 54)

-- Blocks of that size were read once, from block `first` on, and these are their digests. On a steady device the blocks are the
-- stored ones.
pub record IsRunRead (old : Device) (salt : List ℕ) (size first : ℕ) (digests : List (List ℕ)) (new : Device) : Type 0 where
  pub contents : List (List ℕ)
  pub are : digests ≡ map (digest salt) contents
  pub over : IsTrue old.steady → contents ≡ blocks_at old.image size first (length digests)
  pub full : IsFullRead old (length digests * (size / 512)) new

-- the blocks were read, or a call failed
abbrev pub IsRunTried : Device → List ℕ → ℕ → ℕ → List (List ℕ) → Bool → Device → Type 0
IsRunTried old salt size first digests true new = IsRunRead old salt size first digests new
IsRunTried old salt size first digests false new = HasFailedRead old new

-- how many data blocks from `first` on make up a piece of 64 KiB, or all that are left
abbrev pub blocks_of : ShapeRecord → ℕ → ℕ
blocks_of shape first = min (65536 / shape.data_block) (shape.blocks - first)

-- the digest of block i, which was read alone; on a steady device it is that of the stored block; none if the block couldn't be
-- read
abbrev pub IsDigestRead : Device → List ℕ → ℕ → ℕ → Option (List ℕ) → Device → Type 0
IsDigestRead old salt size i (Some found) new = (content : List ℕ) × ((found ≡ digest salt content) × (IsTrue old.steady → content ≡ block_at old.image size i))
IsDigestRead old salt size i None new = HasFailedRead old new

-- the digest of block i: a known digest is returned without a read
abbrev pub IsDigestFound : Device → List ℕ → ℕ → ℕ → List ℕ → Bool → Option (List ℕ) → Device → Type 0
IsDigestFound old salt size i known true found new = (found ≡ Some known) × (new ≡ old)
IsDigestFound old salt size i known false found new = IsDigestRead old salt size i found new
