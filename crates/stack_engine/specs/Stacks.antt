-- A stack and the answer of a read, as contracts see them.
use Rattle.std.specs.Prelude.{ℕ, List, Option}
use Rattle.block_device.specs.Device.{Device}
use Rattle.stack_rules.specs.Records.{Configuration}
use Rattle.stack_rules.specs.Rules.{IsLoaded}
use Rattle.stack_meaning.specs.Found.{FoundRecord}
use Rattle.stack_meaning.specs.Leaves.{ServeLeaves}
use Rattle.stack_lines.specs.Caches.{Capacity, StackCache, IsCacheOf}
use Rattle.verified_cache.specs.Cache.{CachedBlock}

-- a configuration, the devices of its leaves in order, how many blocks may be kept, the hash blocks that are, the
-- most recently used first, the data block that is kept, and how many blocks reads restored
pub record StackRecord : Type 0 where
  pub config : Configuration
  pub leaves : List Device
  pub capacity : Capacity
  pub kept : List CachedBlock
  pub last : Option CachedBlock
  pub restored : ℕ

-- what holds of every stack, whatever its devices answer
pub record IsSound (c : Configuration) (leaves : List Device) : Type 0 where
  pub loaded : IsLoaded c
  pub serve : ServeLeaves c.leaves leaves

-- what holds of its configuration, its leaves and its cache
pub record IsStack (c : Configuration) (leaves : List Device) (cache : StackCache) : Type 0 where
  pub sound : IsSound c leaves
  pub cached : IsCacheOf c leaves cache

-- the bytes of a piece, and the chains that were found
pub record AnswerRecord : Type 0 where
  pub bytes : List ℕ
  pub chains : List FoundRecord
