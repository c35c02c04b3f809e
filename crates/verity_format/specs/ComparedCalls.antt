-- The calls that compare a tree with the one on a device, their order and their result, whatever the devices return.
use Rattle.std.specs.Prelude.{◌≡◌, ◌≢◌, ◌⊎◌, ℕ, ◌*◌, ◌/◌, ◌<◌, Bool, true, false, List, [], ◌∷◌, ◌++◌, length, map, take, All, Option, Some, None, Result, Ok, Err}
use Rattle.std.specs.List.{Contains}
use Rattle.block_device.specs.Call.{Call, Calls, Read}
use Rattle.block_device.specs.CallList.{all_read}
use Rattle.tree_shape.specs.Shape.{ShapeRecord}
use Rattle.hash_tree.specs.Building.{BuilderRecord, PlacedRecord, begun_builder, built_root, completed, pushed}
use Rattle.verity_format.specs.declared.access.TreeFault.{TreeFault}
use Rattle.verity_format.specs.Handing.{AreReadsFrom, AsksOnce, TakesGrowth, digests_read, tree_blocks}
use Rattle.verity_format.specs.Image.{data_sectors}

-- a hash block of the tree, and the bytes that the device returned for it
pub record ComparedBlock : Type 0 where
  pub placed : PlacedRecord
  pub given : List ℕ

abbrev pub placed_of : List ComparedBlock → List PlacedRecord
placed_of [] = []
placed_of (c ∷ more) = c.placed ∷ placed_of more

abbrev pub block_read : ℕ → PlacedRecord → List ℕ → Bool → Call
block_read size p given ok = Read (p.block * (size / 512)) given ok

-- the successful reads of blocks of that size, each at its offset
abbrev pub block_reads : ℕ → List ComparedBlock → List Call
block_reads size [] = []
block_reads size (c ∷ more) = block_read size c.placed c.given true ∷ block_reads size more

-- the device returned the block
abbrev pub IsUnchanged : ComparedBlock → Type 0
IsUnchanged c = c.given ≡ c.placed.bytes

-- the device returned other bytes for block n, and it returned each compared block with a smaller number
pub record IsFirstChanged (compared : List ComparedBlock) (n : ℕ) : Type 0 where
  pub block : ComparedBlock
  pub among : Contains compared block
  pub number : block.placed.block ≡ n
  pub changed : block.given ≢ block.placed.bytes
  pub below : All (λ c. c.placed.block < n → IsUnchanged c) compared

-- the device returned each of the blocks, or block n is the one with the smallest number that it didn't
abbrev pub IsLeastChanged : List ComparedBlock → Option ℕ → Type 0
IsLeastChanged compared None = All IsUnchanged compared
IsLeastChanged compared (Some n) = IsFirstChanged compared n

-- all blocks were read in order, each once; given the first changed block before, the first one with these included
pub record ComparesAll {H : Type 0} (does : H → Call → H → Type 0) (size : ℕ) (blocks : List PlacedRecord) (before after : Option ℕ) (old new : H) : Type 0 where
  pub compared : List ComparedBlock
  pub are : placed_of compared ≡ blocks
  pub made : Calls does old (block_reads size compared) new
  pub least : (others : List ComparedBlock) → IsLeastChanged others before → IsLeastChanged (others ++ compared) after

-- the first of the blocks were read in order, and the read of the last of these failed
pub record ComparesSome {H : Type 0} (does : H → Call → H → Type 0) (size : ℕ) (blocks : List PlacedRecord) (old new : H) : Type 0 where
  pub number : ℕ
  pub compared : List ComparedBlock
  pub last : PlacedRecord
  pub given : List ℕ
  pub first_are : take number blocks ≡ placed_of compared ++ last ∷ []
  pub made : Calls does old (block_reads size compared ++ block_read size last given false ∷ []) new

abbrev pub ComparesBlocks : {H F : Type 0} → (H → Call → H → Type 0) → ℕ → List PlacedRecord → Option ℕ → H → H → Result (Option ℕ) F → Type 0
ComparesBlocks does size blocks before old new (Ok after) = ComparesAll does size blocks before after old new
ComparesBlocks does size blocks before old new (Err fault) = ComparesSome does size blocks old new

-- the first data blocks were read in order, and the hash blocks that their digests complete were read and compared
pub record ComparesGrowth {D H : Type 0} (asks : D → Call → D → Type 0) (does : H → Call → H → Type 0) (shape : ShapeRecord) (salt : List ℕ) (d : D) (h : H) (d' : D) (h' : H) (b : BuilderRecord) (least : Option ℕ) : Type 0 where
  pub taken : TakesGrowth asks shape salt d d' b
  pub compared : List ComparedBlock
  pub are : placed_of compared ≡ completed (begun_builder shape salt) (digests_read salt shape.data_block taken.reads)
  pub made : Calls does h (block_reads shape.hash_block compared) h'
  pub least_is : IsLeastChanged compared least

-- all data blocks were read in order, and each hash block of the tree over the data that these reads returned was read
-- once and compared; `root` is the root hash of that tree
pub record ComparesWhole {D H : Type 0} (asks : D → Call → D → Type 0) (does : H → Call → H → Type 0) (shape : ShapeRecord) (salt : List ℕ) (d : D) (h : H) (d' : D) (h' : H) (least : Option ℕ) (root : List ℕ) : Type 0 where
  pub reads : List Call
  pub in_order : AreReadsFrom 0 reads
  pub all : all_read reads ≡ data_sectors shape
  pub asked : Calls asks d reads d'
  pub compared : List ComparedBlock
  pub are : placed_of compared ≡ tree_blocks shape salt (digests_read salt shape.data_block reads)
  pub made : Calls does h (block_reads shape.hash_block compared) h'
  pub least_is : IsLeastChanged compared least
  pub root_is : root ≡ built_root (pushed (begun_builder shape salt) (digests_read salt shape.data_block reads))

-- these blocks were read in order
pub record ReadsBlocks {H : Type 0} (does : H → Call → H → Type 0) (size : ℕ) (blocks : List PlacedRecord) (old new : H) : Type 0 where
  pub compared : List ComparedBlock
  pub are : placed_of compared ≡ blocks
  pub made : Calls does old (block_reads size compared) new

-- the reads of hash blocks of an incomplete comparison, given the digests of the data read: the blocks that they
-- complete, or those up to a read that failed
abbrev pub StopsComparing : {H : Type 0} → (H → Call → H → Type 0) → ShapeRecord → List ℕ → List (List ℕ) → H → H → Type 0
StopsComparing does shape salt digests h h' =
    ReadsBlocks does shape.hash_block (completed (begun_builder shape salt) digests) h h'
    ⊎ ComparesSome does shape.hash_block (completed (begun_builder shape salt) digests) h h'
    ⊎ ((length digests ≡ shape.blocks) × ComparesSome does shape.hash_block (tree_blocks shape salt digests) h h')

-- the tree wasn't compared completely; after the successful reads of data, at most one more was called
pub record ComparesPart {D H : Type 0} (asks : D → Call → D → Type 0) (does : H → Call → H → Type 0) (shape : ShapeRecord) (salt : List ℕ) (d : D) (h : H) (d' : D) (h' : H) : Type 0 where
  pub reads : List Call
  pub in_order : AreReadsFrom 0 reads
  pub between : D
  pub asked : Calls asks d reads between
  pub rest : AsksOnce asks between d'
  pub stopped : StopsComparing does shape salt (digests_read salt shape.data_block reads) h h'

abbrev pub ComparesOver : {D H : Type 0} → (D → Call → D → Type 0) → (H → Call → H → Type 0) → ShapeRecord → List ℕ → D → H → D → H → Result (Option ℕ × List ℕ) TreeFault → Type 0
ComparesOver asks does shape salt d h d' h' (Ok r) = ComparesWhole asks does shape salt d h d' h' r.0 r.1
ComparesOver asks does shape salt d h d' h' (Err fault) = ComparesPart asks does shape salt d h d' h'
