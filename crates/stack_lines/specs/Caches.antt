-- The cache of a stack, beside the leaves from which it was filled.
use Rattle.std.specs.Prelude.{◌≡◌, ◌≤◌, ℕ, ◌*◌, ◌==◌, ◌||◌, Bool, false, not, if◌then◌else◌, List, [], length, All, Option, Some, None, IfSome, Ok}
use Rattle.allocation.specs.Refusal.{IsOutOfMemory}
use Rattle.block_device.specs.Device.{Device}
use Rattle.dm_table.specs.declared.verity.Verity.{Verity}
use Rattle.stack_rules.specs.Names.{named}
use Rattle.stack_rules.specs.Records.{Configuration}
use Rattle.stack_rules.specs.Trees.{block_sectors}
use Rattle.verified_cache.specs.Cache.{CachedBlock, CacheRecord, IsCache}
use Rattle.verified_cache.specs.declared.key.Key.{Key}
use Rattle.stack_lines.specs.declared.tree.Extent.{Extent}
use Rattle.stack_lines.specs.declared.leaf_set.LeafSet.{LeafSet}
use Rattle.stack_lines.specs.Extents.{LiesInsideLower}
use Rattle.stack_lines.specs.Standing.{AreLeafSets, CoversBlocks, name_stands_on}
use Rattle.stack_meaning.specs.Agreement.{AgreesOn}
use Rattle.stack_meaning.specs.Outcomes.{span}
use Rattle.stack_meaning.specs.Blocks.{hash_sectors, hash_place}
use Rattle.stack_meaning.specs.Leaves.{steady_images, AreSteady}
use Rattle.stack_meaning.specs.Meaning.{said_by_name}
use Rattle.stack_lines.specs.Walks.{HasVerity, IsBlockOfDigest}

-- sectors of the device of that name
pub record NamedExtent : Type 0 where
  pub name : List ℕ
  pub first : ℕ
  pub sectors : ℕ

-- where the hash block of a key is stored, and the data block of a key, whose level is 0
abbrev pub hash_stored : Verity → Key → NamedExtent
hash_stored v key = record { name = v.hash; first = hash_place v key.level key.block; sectors = hash_sectors v }

abbrev pub data_stored : Verity → Key → NamedExtent
data_stored v key = record { name = v.data; first = block_sectors v * key.block; sectors = block_sectors v }

-- A block that is kept for a verity line has the digest that it is kept under; and if the leaves beneath the device on which it is
-- stored are steady, and agree with what parity restores on them, it is what that device's span gives now at its place.
pub record IsKept (stored : Verity → Key → NamedExtent) (c : Configuration) (leaves : List Device) (b : CachedBlock) : Type 0 where
  pub verity : Verity
  pub line : HasVerity c b.key.device b.key.line verity
  pub block : IsBlockOfDigest (stored verity b.key).sectors verity.salt b.digest b.bytes
  pub exact : AreSteady (λ i. name_stands_on c i (stored verity b.key).name) leaves → AgreesOn c (λ i. name_stands_on c i (stored verity b.key).name) (steady_images leaves)
      → span (λ s. (said_by_name c (stored verity b.key).name s).means (steady_images leaves)) (stored verity b.key).first (stored verity b.key).sectors ≡ Ok b.bytes

-- a hash block, and a data block
abbrev pub IsCached : Configuration → List Device → CachedBlock → Type 0
IsCached = IsKept hash_stored

abbrev pub IsCachedData : Configuration → List Device → CachedBlock → Type 0
IsCachedData = IsKept data_stored

-- The hash blocks that are kept; the data block that is kept; whether one is; the leaves beneath each mapped device; and the leaves beneath the hash
-- devices of the kept hash blocks' lines, and maybe others.
pub record StackCache : Type 0 where
  pub blocks : CacheRecord
  pub last : Option CachedBlock
  pub keeps_last : Bool
  pub beneath : List LeafSet
  pub covered : LeafSet

-- how many hash blocks are kept at most, and whether a data block is
pub record Capacity : Type 0 where
  pub blocks : ℕ
  pub last : Bool

abbrev pub capacity_of : StackCache → Capacity
capacity_of cache = record { blocks = cache.blocks.capacity; last = cache.keeps_last }

-- the same, once a data block is to be kept beside hash blocks
abbrev pub with_last : Capacity → Capacity
with_last capacity = record capacity { last = capacity.last || not (capacity.blocks == 0) }

-- the data block that is kept after another one was read, if one is
abbrev pub last_after_keep : Bool → CachedBlock → Option CachedBlock → Option CachedBlock
last_after_keep keeps b last = if keeps then Some b else last

-- the data block that is kept is this one, under that key and that digest
pub record IsLastBlock (last : Option CachedBlock) (key : Key) (digest bytes : List ℕ) : Type 0 where
  pub kept : CachedBlock
  pub is : last ≡ Some kept
  pub key_is : kept.key ≡ key
  pub digest_is : kept.digest ≡ digest
  pub bytes_are : bytes ≡ kept.bytes

-- a copy of one of the kept blocks was refused, which have no more bytes than that
abbrev pub IsUncopied : CacheRecord → Type 0
IsUncopied cache = (most : ℕ) → All (λ b. length b.bytes ≤ most) cache.blocks → IsOutOfMemory most

-- a copy of the data block that is kept was refused
abbrev pub IsLastUncopied : Option CachedBlock → Type 0
IsLastUncopied last = (most : ℕ) → IfSome last (λ b. length b.bytes ≤ most) → IsOutOfMemory most

-- no block is kept, and the leaves beneath each device are known
pub record IsFreshCache (c : Configuration) (capacity : Capacity) (cache : StackCache) : Type 0 where
  pub empty : cache.blocks ≡ record { capacity = capacity.blocks; blocks = [] }
  pub keeps : cache.keeps_last ≡ capacity.last
  pub none : cache.last ≡ None
  pub sets : AreLeafSets c cache.beneath

-- what holds of a cache beside these leaves, whatever they answer
pub record IsCacheOf (c : Configuration) (leaves : List Device) (cache : StackCache) : Type 0 where
  pub sets : AreLeafSets c cache.beneath
  pub covers : CoversBlocks c cache.covered cache.blocks.blocks
  pub valid : IsCache cache.blocks
  pub kept : All (IsCached c leaves) cache.blocks.blocks
  pub last : IfSome cache.last (IsCachedData c leaves)
  pub room : cache.keeps_last ≡ false → cache.last ≡ None

-- what a read or a write that left these leaves left of the cache
pub record KeepsCache (c : Configuration) (leaves : List Device) (before after : StackCache) : Type 0 where
  pub capacity : capacity_of after ≡ capacity_of before
  pub sound : IsCacheOf c leaves after

-- the key is that of a block of a verity line with that salt, which is stored in the extent, inside its device
pub record IsPlaceOf (stored : Verity → Key → NamedExtent) (c : Configuration) (salt : List ℕ) (key : Key) (extent : Extent) : Type 0 where
  pub verity : Verity
  pub line : HasVerity c key.device key.line verity
  pub salt_is : verity.salt ≡ salt
  pub on : named c (stored verity key).name ≡ Some extent.lower
  pub first : extent.first ≡ (stored verity key).first
  pub sectors : extent.sectors ≡ (stored verity key).sectors
  pub lies : LiesInsideLower c extent
