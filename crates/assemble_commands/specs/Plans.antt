-- What a disk is to hold.
use Rattle.std.specs.Prelude.{◌≡◌, ◌≢◌, ◌⊎◌, ◌==◌, ◌+◌, ◌-◌, ◌*◌, ◌/◌, ℕ, Bool, true, false, List, [], ◌∷◌, ◌++◌, codes, drop, length, replicate, take, if◌then◌else◌}
use Rattle.block_device.specs.Device.{capped}
use Rattle.command_line.specs.words.Assemble.{AssembleRecord}
use Rattle.disk_layout.specs.Made.{partition_at}
use Rattle.disk_layout.specs.Parts.{disk_parts}
use Rattle.fec_commands.specs.Needed.{TakesSectors}
use Rattle.image_commands.specs.declared.format.MadeImage.{MadeImage}
use Rattle.image_commands.specs.Drawing.{AreGiven, Drawing}
use Rattle.image_commands.specs.TreePlaces.{HasShape}
use Rattle.partition_table.specs.declared.partition.Partition.{Partition}
use Rattle.partition_table.specs.declared.sector_size.SectorSize.{SectorSize}
use Rattle.partition_table.specs.declared.sector_size.SectorSize.TheVariants.{Bytes4096, Bytes512}
use Rattle.tree_shape.specs.Shape.{ShapeRecord}
use Rattle.verity_format.specs.Image.{image_sectors}
use Rattle.verity_format.specs.Options.{superblock_with}
use Rattle.verity_format.specs.Superblock.{IsSuperblock, shape_of}
use Rattle.assemble_commands.specs.declared.kinds.DiskKinds.{DiskKinds}
use Rattle.assemble_commands.specs.declared.plan.DiskPlan.{DiskPlan}
use Rattle.assemble_commands.specs.Identifiers.{identifier, seed_options}

abbrev pub size_of : ℕ → SectorSize
size_of bytes = if bytes == 4096 then Bytes4096 else Bytes512

-- so many sectors of 512 bytes, or the next number of them that are whole sectors of the disk
abbrev pub padded : ℕ → ℕ → ℕ
padded bytes sectors = if bytes == 4096 then capped (sectors + 7) / 8 * 8 else sectors

-- The parity of an image with a tree of that shape takes so many sectors, with two bytes of it in a codeword. Without parity, or if data
-- and hash blocks differ in size, it takes none.
abbrev pub IsParityCount : ShapeRecord → ℕ → Bool → ℕ → Type 0
IsParityCount shape hash_sectors false n = n ≡ 0
IsParityCount shape hash_sectors true n = TakesSectors shape hash_sectors 2 n ⊎ ((shape.data_block ≢ shape.hash_block) × (n ≡ 0))

-- The salt and the identifier are those of the seed, or drawn; the image has all whole blocks of the data. The parts lie one after the
-- other, as large as data, hash image and parity; that of the data ends with a whole sector of the disk.
pub record IsPlan {T G : Type 0} (d : Drawing T G) (a : AssembleRecord) (sectors : ℕ) (kinds : DiskKinds) (plan : DiskPlan) : Type 0 where
  pub drawn : AreGiven d (seed_options a.seed) plan.options
  pub shaped : HasShape (superblock_with plan.options sectors) plan.superblock
  pub is_superblock : IsSuperblock plan.superblock
  pub parity_count : ℕ
  pub parity : IsParityCount (shape_of plan.superblock) (image_sectors (shape_of plan.superblock)) a.parity parity_count
  pub parts : plan.parts ≡ disk_parts (padded a.sector_size sectors) (image_sectors (shape_of plan.superblock)) parity_count
  pub kinds_are : plan.kinds ≡ kinds
  pub size : plan.size ≡ size_of a.sector_size
  pub has_parity : plan.has_parity ≡ a.parity

-- a label of these bytes
abbrev pub label_of : List ℕ → List ℕ
label_of text = text ++ replicate (72 - length text) 0

-- "data", "hash" and "parity" in UTF-16
abbrev pub data_label : List ℕ
data_label = label_of (100 ∷ 0 ∷ 97 ∷ 0 ∷ 116 ∷ 0 ∷ 97 ∷ 0 ∷ [])

abbrev pub hash_label : List ℕ
hash_label = label_of (104 ∷ 0 ∷ 97 ∷ 0 ∷ 115 ∷ 0 ∷ 104 ∷ 0 ∷ [])

abbrev pub parity_label : List ℕ
parity_label = label_of (112 ∷ 0 ∷ 97 ∷ 0 ∷ 114 ∷ 0 ∷ 105 ∷ 0 ∷ 116 ∷ 0 ∷ 121 ∷ 0 ∷ [])

-- Linux filesystem data: 0fc63daf-8483-4772-8e79-3d69d8477de4
abbrev pub parity_kind : List ℕ
parity_kind = 0x0f ∷ 0xc6 ∷ 0x3d ∷ 0xaf ∷ 0x84 ∷ 0x83 ∷ 0x47 ∷ 0x72 ∷ 0x8e ∷ 0x79 ∷ 0x3d ∷ 0x69 ∷ 0xd8 ∷ 0x47 ∷ 0x7d ∷ 0xe4 ∷ []

-- the UUID of the data's partition is the first half of the root hash, that of the tree's the second half
abbrev pub data_partition : DiskPlan → MadeImage → Partition
data_partition plan made = partition_at plan.kinds.«data» (take 16 made.root) data_label plan.size 1 plan.parts.«data»

abbrev pub hash_partition : DiskPlan → MadeImage → Partition
hash_partition plan made = partition_at plan.kinds.hash (drop 16 made.root) hash_label plan.size 2 plan.parts.hash

-- that of the parity's is derived from the salt
abbrev pub parity_partition : DiskPlan → MadeImage → Partition
parity_partition plan made = partition_at parity_kind (identifier made.salt (codes "parity")) parity_label plan.size 3 plan.parts.parity

-- those of the disk
abbrev pub partitions_of : DiskPlan → MadeImage → List Partition
partitions_of plan made =
    if plan.has_parity then data_partition plan made ∷ hash_partition plan made ∷ parity_partition plan made ∷ [] else data_partition plan made ∷ hash_partition plan made ∷ []

-- the identifier of the disk is derived from the salt
abbrev pub disk_id : MadeImage → List ℕ
disk_id made = identifier made.salt (codes "disk")
