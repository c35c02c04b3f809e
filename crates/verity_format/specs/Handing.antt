-- The calls that write a tree to a device while it is built, and their order, whatever the devices do.
use Rattle.std.specs.Prelude.{◌≡◌, ◌⊎◌, ℕ, ◌+◌, ◌-◌, ◌*◌, ◌/◌, ◌≤◌, Bool, true, false, IsTrue, List, [], ◌∷◌, ◌++◌, length, map, take, Result, Ok, Err, Vec}
use Rattle.std.specs.Global.{Global}
use Rattle.block_device.specs.Call.{Call, Calls, DeviceDoes, Read, Sync, Write}
use Rattle.block_device.specs.CallList.{AllReads, all_read}
use Rattle.block_device.specs.Device.{Device}
use Rattle.tree_shape.specs.Digests.{digest}
use Rattle.tree_shape.specs.Shape.{ShapeRecord}
use Rattle.hash_tree.specs.Building.{BuilderRecord, PlacedRecord, begun_builder, built_root, completed, last_completed, pushed}
use Rattle.hash_tree.specs.Tree.{cut}
use Rattle.verity_format.specs.declared.access.TreeFault.{TreeFault}
use Rattle.verity_format.specs.declared.formatting.FormatFault.{FormatFault}
use Rattle.verity_format.specs.Formatting.{OnlyImageIsWritten}
use Rattle.verity_format.specs.Image.{data_sectors, first_block}
use Rattle.verity_format.specs.Superblock.{SuperRecord, shape_of}

-- the writes of blocks of that size, each at its offset
abbrev pub writes_of : ℕ → List PlacedRecord → List Call
writes_of size [] = []
writes_of size (p ∷ more) = Write (p.block * (size / 512)) p.bytes true ∷ writes_of size more

-- the first of the blocks were written in order, and the write of the last of these failed
pub record HandsSome {H : Type 0} (does : H → Call → H → Type 0) (size : ℕ) (blocks : List PlacedRecord) (old new : H) : Type 0 where
  pub number : ℕ
  pub before : List PlacedRecord
  pub last : PlacedRecord
  pub first_are : take number blocks ≡ before ++ last ∷ []
  pub made : Calls does old (writes_of size before ++ Write (last.block * (size / 512)) last.bytes false ∷ []) new

-- all blocks were written in order, or the first of them up to a write that failed; there was no other call
abbrev pub HandsBlocks : {H : Type 0} → (H → Call → H → Type 0) → ℕ → List PlacedRecord → H → H → Bool → Type 0
HandsBlocks does size blocks old new true = Calls does old (writes_of size blocks) new
HandsBlocks does size blocks old new false = HandsSome does size blocks old new

-- the digests of the blocks of that size that the reads returned
abbrev pub digests_read : List ℕ → ℕ → List Call → List (List ℕ)
digests_read salt size [] = []
digests_read salt size (Read first bytes ok ∷ more) = map (digest salt) (cut size bytes) ++ digests_read salt size more
digests_read salt size (Write first bytes ok ∷ more) = digests_read salt size more
digests_read salt size (Sync ok ∷ more) = digests_read salt size more

-- successful reads, each from the end of the one before
abbrev pub AreReadsFrom : ℕ → List Call → Type 0
AreReadsFrom at [] = Unit {0}
AreReadsFrom at (Read first bytes ok ∷ more) = (first ≡ at) × IsTrue ok × AreReadsFrom (at + length bytes / 512) more
AreReadsFrom at (Write first bytes ok ∷ more) = ⊥
AreReadsFrom at (Sync ok ∷ more) = ⊥

-- one read of blocks of that size from block `first` on; if it succeeded, the digests of the blocks that it returned
pub record GivesDigests {D : Type 0} (does : D → Call → D → Type 0) (salt : List ℕ) (size first : ℕ) (old new : D) (digests : List (List ℕ)) (ok : Bool) : Type 0 where
  pub bytes : List ℕ
  pub made : does old (Read (first * (size / 512)) bytes ok) new
  pub are : IsTrue ok → digests ≡ map (digest salt) (cut size bytes)
  pub sectors : length bytes / 512 ≡ length digests * (size / 512)

-- one read of the next data blocks: the builder took the digests of the blocks that it returned, and emitted the hash
-- blocks that these complete
pub record GivesRun {D : Type 0} (does : D → Call → D → Type 0) (shape : ShapeRecord) (salt : List ℕ) (old new : D) (b b' : BuilderRecord) (out : List PlacedRecord) : Type 0 where
  pub digests : List (List ℕ)
  pub given : GivesDigests does salt shape.data_block (shape.blocks - b.left) old new digests true
  pub few : length digests ≤ b.left
  pub after : b' ≡ pushed b digests
  pub placed : out ≡ completed b digests

-- at most one read was called, and nothing else
pub record AsksOnce {D : Type 0} (does : D → Call → D → Type 0) (old new : D) : Type 0 where
  pub calls : List Call
  pub reads : AllReads calls
  pub few : length calls ≤ 1
  pub made : Calls does old calls new

abbrev pub TakesOrAsks : {D : Type 0} → (D → Call → D → Type 0) → ShapeRecord → List ℕ → D → D → BuilderRecord → BuilderRecord → Result (Vec PlacedRecord Global) TreeFault → Type 0
TakesOrAsks does shape salt old new b b' (Ok out) = GivesRun does shape salt old new b b' out.items
TakesOrAsks does shape salt old new b b' (Err fault) = AsksOnce does old new

-- the blocks of a tree over these digests, in the order in which a builder emits them
abbrev pub tree_blocks : ShapeRecord → List ℕ → List (List ℕ) → List PlacedRecord
tree_blocks shape salt digests = completed (begun_builder shape salt) digests ++ last_completed (pushed (begun_builder shape salt) digests)

-- the first data blocks were read in order, and the builder took the digests of the blocks that these reads returned
pub record TakesGrowth {D : Type 0} (asks : D → Call → D → Type 0) (shape : ShapeRecord) (salt : List ℕ) (d d' : D) (b : BuilderRecord) : Type 0 where
  pub reads : List Call
  pub in_order : AreReadsFrom 0 reads
  pub count : all_read reads ≡ length (digests_read salt shape.data_block reads) * (shape.data_block / 512)
  pub few : length (digests_read salt shape.data_block reads) ≤ shape.blocks
  pub after : b ≡ pushed (begun_builder shape salt) (digests_read salt shape.data_block reads)
  pub asked : Calls asks d reads d'

-- and the hash blocks that these digests complete were written
pub record HandsGrowth {D H : Type 0} (asks : D → Call → D → Type 0) (does : H → Call → H → Type 0) (shape : ShapeRecord) (salt : List ℕ) (d : D) (h : H) (d' : D) (h' : H) (b : BuilderRecord) : Type 0 where
  pub taken : TakesGrowth asks shape salt d d' b
  pub handed : Calls does h (writes_of shape.hash_block (completed (begun_builder shape salt) (digests_read salt shape.data_block taken.reads))) h'

-- all data blocks were read in order, and all blocks of the tree over the data read were written; `root` is its root
-- hash
pub record HandsTree {D H : Type 0} (asks : D → Call → D → Type 0) (does : H → Call → H → Type 0) (shape : ShapeRecord) (salt : List ℕ) (d : D) (h : H) (d' : D) (h' : H) (root : List ℕ) : Type 0 where
  pub reads : List Call
  pub in_order : AreReadsFrom 0 reads
  pub all : all_read reads ≡ data_sectors shape
  pub asked : Calls asks d reads d'
  pub handed : Calls does h (writes_of shape.hash_block (tree_blocks shape salt (digests_read salt shape.data_block reads))) h'
  pub root_is : root ≡ built_root (pushed (begun_builder shape salt) (digests_read salt shape.data_block reads))

-- the writes of an incomplete tree, given the digests of the data read: the blocks that they complete, or those up to
-- a write that failed
abbrev pub StopsHanding : {H : Type 0} → (H → Call → H → Type 0) → ShapeRecord → List ℕ → List (List ℕ) → H → H → Type 0
StopsHanding does shape salt digests h h' =
    Calls does h (writes_of shape.hash_block (completed (begun_builder shape salt) digests)) h'
    ⊎ HandsSome does shape.hash_block (completed (begun_builder shape salt) digests) h h'
    ⊎ ((length digests ≡ shape.blocks) × HandsSome does shape.hash_block (tree_blocks shape salt digests) h h')

-- the tree wasn't written completely; after the successful reads, at most one more was called
pub record HandsPart {D H : Type 0} (asks : D → Call → D → Type 0) (does : H → Call → H → Type 0) (shape : ShapeRecord) (salt : List ℕ) (d : D) (h : H) (d' : D) (h' : H) : Type 0 where
  pub reads : List Call
  pub in_order : AreReadsFrom 0 reads
  pub between : D
  pub asked : Calls asks d reads between
  pub rest : AsksOnce asks between d'
  pub stopped : StopsHanding does shape salt (digests_read salt shape.data_block reads) h h'

abbrev pub HandsTreeOver : {D H F : Type 0} → (D → Call → D → Type 0) → (H → Call → H → Type 0) → ShapeRecord → List ℕ → D → H → D → H → Result (List ℕ) F → Type 0
HandsTreeOver asks does shape salt d h d' h' (Ok root) = HandsTree asks does shape salt d h d' h' root
HandsTreeOver asks does shape salt d h d' h' (Err fault) = HandsPart asks does shape salt d h d' h'

-- the whole tree was written and then, as the last call, hash block 0
pub record HandsImage {D H : Type 0} (asks : D → Call → D → Type 0) (does : H → Call → H → Type 0) (s : SuperRecord) (d : D) (h : H) (d' : D) (h' : H) (root : List ℕ) (ok : Bool) : Type 0 where
  pub between : H
  pub tree : HandsTree asks does (shape_of s) s.salt d h d' between root
  pub last : does between (Write 0 (first_block s) ok) h'

-- all calls of formatting: unless the superblock was written, at most a part of the tree was
abbrev pub HandsFormat : {D H : Type 0} → (D → Call → D → Type 0) → (H → Call → H → Type 0) → SuperRecord → D → H → D → H → Result (List ℕ) FormatFault → Type 0
HandsFormat asks does s d h d' h' (Ok root) = HandsImage asks does s d h d' h' root true
HandsFormat asks does s d h d' h' (Err fault) = HandsPart asks does (shape_of s) s.salt d h d' h' ⊎ ((root : List ℕ) × HandsImage asks does s d h d' h' root false)

-- the data device was only read, on the hash device at most the sectors of the image were written, and these are all
-- calls
abbrev pub MovesImage : {D H : Type 0} → (D → Device) → (D → Call → D → Type 0) → (H → Device) → (H → Call → H → Type 0) → SuperRecord → D → H → D → H → Result (List ℕ) FormatFault → Type 0
MovesImage data_state asks hash_state does s d h d' h' result =
    OnlyImageIsWritten data_state hash_state s d h d' h' × HandsFormat (DeviceDoes data_state asks) (DeviceDoes hash_state does) s d h d' h' result
