-- Hash blocks of the path to a data block, which are read or restored.
use Rattle.std.specs.Prelude.{◌≡◌, List, Ok}
use Rattle.block_device.specs.Device.{Device}
use Rattle.dm_table.specs.declared.verity.Verity.{Verity}
use Rattle.stack_rules.specs.Records.{Configuration}
use Rattle.stack_meaning.specs.Blocks.{hash_block_at, hash_sectors}
use Rattle.stack_meaning.specs.Leaves.{steady_images, AreSteady}
use Rattle.stack_lines.specs.Walks.{AgreesAt, HasVerity, IsBlockOfDigest, block_in, block_leaves, sources_of}
use Rattle.verified_cache.specs.Cache.{CachedBlock}

-- A hash block of a `verity` line has the digest by which it was checked; and if the leaves beneath the line are steady, and agree
-- with what parity restores on them, it is what the line means there: the block as it is stored, or its spare.
pub record IsHeld (c : Configuration) (leaves : List Device) (b : CachedBlock) : Type 0 where
  pub verity : Verity
  pub line : HasVerity c b.key.device b.key.line verity
  pub block : IsBlockOfDigest (hash_sectors verity) verity.salt b.digest b.bytes
  pub exact : AreSteady (block_leaves (block_in c verity 0)) leaves → AgreesAt (block_in c verity 0) (steady_images leaves)
      → hash_block_at verity (sources_of (block_in c verity 0) (steady_images leaves)) b.key.level b.key.block b.digest ≡ Ok b.bytes
