-- The data blocks of a `verity` line, the hash tree over them, and the parity of both.
use Rattle.std.specs.Prelude.{ℕ, ◌+◌, ◌-◌, ◌*◌, ◌/◌, List, replicate, Option, Some, None}
use Rattle.std.specs.Int.{div_ceil}
use Rattle.tree_shape.specs.Shape.{ShapeRecord, shape_with, blocks_sectors, levels, area_end}
use Rattle.dm_table.specs.declared.table.Target.{Target}
use Rattle.dm_table.specs.declared.table.Target.TheVariants.{Verity as verity_target}
use Rattle.dm_table.specs.declared.verity.Verity.{Verity}
use Rattle.dm_table.specs.declared.parity.Parity.{Parity}

-- the shape of the tree that the arguments describe
abbrev pub tree_of : Verity → ShapeRecord
tree_of verity = shape_with verity.data_block verity.hash_block verity.blocks verity.start

-- the sectors of all data blocks, and the sectors up to the end of the tree
abbrev pub line_data_sectors : Verity → ℕ
line_data_sectors verity = blocks_sectors verity.blocks verity.data_block

abbrev pub line_tree_sectors : Verity → ℕ
line_tree_sectors verity = blocks_sectors (area_end (tree_of verity)) verity.hash_block

-- the sectors of a data block, and of one hash block of each level
abbrev pub block_sectors : Verity → ℕ
block_sectors verity = verity.data_block / 512

abbrev pub path_sectors : Verity → ℕ
path_sectors verity = levels (tree_of verity) * (verity.hash_block / 512)

-- the blocks that are verified for a sector: a hash block of each level, and the data block
abbrev pub path_blocks : Verity → ℕ
path_blocks verity = levels (tree_of verity) + 1

-- a data block of zeros
abbrev pub zero_block : Verity → List ℕ
zero_block verity = replicate verity.data_block 0

-- the number of rounds; a round has one block at each position of the message
abbrev pub round_count : Parity → ℕ
round_count parity = div_ceil parity.blocks (255 - parity.roots)

-- the sectors of the hash device up to the end of the covered blocks, and of the parity device up to that of the parity
abbrev pub covered_sectors : Verity → Parity → ℕ
covered_sectors verity parity = (verity.start + (parity.blocks - verity.blocks)) * block_sectors verity

abbrev pub parity_sectors : Verity → Parity → ℕ
parity_sectors verity parity = (parity.start + round_count parity * parity.roots) * block_sectors verity

-- the most blocks read for the spare of a block: the other blocks of its round and their parity, 254 blocks; and to restore it by
-- erasures, the paths to the other blocks, these and the parity once more
abbrev pub spare_blocks : Verity → ℕ
spare_blocks verity = 254 * (path_blocks verity + 2)

-- the most sectors read to restore a block: the block itself once more, and its spare
abbrev pub mend_sectors : Verity → ℕ
mend_sectors verity = (spare_blocks verity + 1) * block_sectors verity

-- the arguments of a `verity` line
abbrev pub verity_of : Target → Option Verity
verity_of (verity_target verity) = Some verity
verity_of target = None
