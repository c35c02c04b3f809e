-- The stack text that opens a verity image of two partitions.
use Rattle.std.specs.Prelude.{ℕ, ◌+◌, List, [], ◌++◌, ◌||◌, nat_lt, Bool, false, Option, None, Some, option_map, codes}
use Rattle.dm_table.specs.declared.parity.Parity.{Parity}
use Rattle.partition_table.specs.declared.sector_size.SectorSize.{SectorSize}
use Rattle.verity_format.specs.Line.{LineNames, table_text, text_room, verity_text}
use Rattle.verity_format.specs.Image.{data_sectors, tree_sectors}
use Rattle.verity_format.specs.Superblock.{SuperRecord, shape_of}
use Rattle.verity_format.specs.Trees.{superblock_tree}
use Rattle.partition_commands.specs.declared.parity.ImageParity.{ImageParity}
use Rattle.partition_commands.specs.declared.root.ImagePartitions.{ImagePartitions}
use Rattle.partition_commands.specs.Loads.{stack_room}
use Rattle.image_files.specs.Partitions.{part_of}
use Rattle.stack_files.specs.DiskEntries.{entry_text, linear_line}

-- the data blocks, checked by the tree: `root`
unfoldable pub root_entry : SuperRecord → List ℕ → List ℕ
root_entry s root = entry_text false (codes "root") (table_text s (codes "/dev/mapper/data") (codes "/dev/mapper/hash") root)

-- `data` and `hash`, the two partitions, and what is over them; only `data` may be writable
abbrev pub over_pair : Bool → SectorSize → ImagePartitions → List ℕ → List ℕ
over_pair writable size both over =
    entry_text writable (codes "data") (linear_line (part_of size both.data)) ++ (entry_text false (codes "hash") (linear_line (part_of size both.verity)) ++ over)

-- `root` over the two
unfoldable pub root_stack_text : Bool → SectorSize → ImagePartitions → SuperRecord → List ℕ → List ℕ
root_stack_text writable size both s root = over_pair writable size both (root_entry s root)

-- ---- with parity

-- the parity in the line of `root`; it begins with its device
abbrev pub line_parity : ImageParity → Parity
line_parity parity = record { device = codes "/dev/mapper/parity"; roots = parity.roots; blocks = parity.blocks; start = 0 }

-- the device arguments of that line
abbrev pub image_names : Option ImageParity → LineNames
image_names parity = record { data_name = codes "/dev/mapper/data"; hash_name = codes "/dev/mapper/hash"; parity = option_map line_parity parity }

-- the data blocks, checked by the tree and restored by the parity: `root`
unfoldable pub image_entry : SuperRecord → List ℕ → Option ImageParity → List ℕ
image_entry s root parity = entry_text false (codes "root") (verity_text (superblock_tree s) (image_names parity) root 1)

-- the partition of the parity: `parity`
abbrev pub parity_entry : Option ImageParity → List ℕ
parity_entry None = []
parity_entry (Some parity) = entry_text false (codes "parity") (linear_line parity.part)

-- no allocation for the text, or for its check, is larger, in bytes
abbrev pub image_room : SuperRecord → List ℕ → Option ImageParity → ℕ
image_room s root parity = stack_room + text_room (superblock_tree s) (image_names parity) root 1

-- the stack over the two partitions, and over that of the parity, if there is one
abbrev pub image_stack_text : Bool → SectorSize → ImagePartitions → SuperRecord → List ℕ → Option ImageParity → List ℕ
image_stack_text writable size both s root None = root_stack_text writable size both s root
image_stack_text writable size both s root (Some parity) = over_pair writable size both (parity_entry (Some parity) ++ image_entry s root (Some parity))

-- the data partition has fewer sectors than the data blocks, or the verity partition than the superblock and the tree:
-- the loader would refuse the line `root` as one beyond its devices
abbrev pub is_unfit : SectorSize → ImagePartitions → SuperRecord → Bool
is_unfit size both s = nat_lt (part_of size both.data).count (data_sectors (shape_of s)) || nat_lt (part_of size both.verity).count (tree_sectors (shape_of s))
