-- The tree over a data image, and the hash image that stores it.
use Rattle.std.specs.Prelude.{ℕ, ◌+◌, ◌-◌, ◌/◌, List, ◌++◌, map, replicate}
use Rattle.std.specs.List.{concat}
use Rattle.block_device.specs.Device.{spliced, sectors_of as cut_into}
use Rattle.tree_shape.specs.Digests.{digest}
use Rattle.tree_shape.specs.Shape.{ShapeRecord, blocks_sectors, area_blocks, area_end}
use Rattle.hash_tree.specs.Tree.{area, root}
use Rattle.verity_format.specs.Superblock.{SuperRecord, shape_of, spelling}
use Rattle.verity_format.specs.Blocks.{blocks_at}

-- the digests of the data blocks
abbrev pub digests_of : ShapeRecord → List ℕ → List (List ℕ) → List (List ℕ)
digests_of shape salt image = map (digest salt) (blocks_at image shape.data_block 0 shape.blocks)

-- the hash blocks of the tree over a data image, and its root hash
abbrev pub area_over : ShapeRecord → List ℕ → List (List ℕ) → List (List ℕ)
area_over shape salt image = area shape.hash_block salt (digests_of shape salt image)

abbrev pub root_over : ShapeRecord → List ℕ → List (List ℕ) → List ℕ
root_over shape salt image = root shape.hash_block salt (digests_of shape salt image)

-- the number of sectors of the data blocks
abbrev pub data_sectors : ShapeRecord → ℕ
data_sectors shape = blocks_sectors shape.blocks shape.data_block

-- the number of sectors up to the end of the tree, or 0 if the tree has no block
abbrev pub tree_sectors : ShapeRecord → ℕ
tree_sectors shape = blocks_sectors (area_end shape) shape.hash_block

-- the number of sectors of the tree's hash blocks
abbrev pub area_sectors : ShapeRecord → ℕ
area_sectors shape = blocks_sectors (area_blocks shape) shape.hash_block

-- the sectors of the tree over a data image
abbrev pub tree_over : ShapeRecord → List ℕ → List (List ℕ) → List (List ℕ)
tree_over shape salt data_image = cut_into (area_sectors shape) (concat (area_over shape salt data_image))

-- a hash image with the tree over a data image from hash block `start` on; all other sectors are unchanged
abbrev pub with_tree : ShapeRecord → List ℕ → List (List ℕ) → List (List ℕ) → List (List ℕ)
with_tree shape salt data_image hash_image = spliced hash_image (blocks_sectors shape.start shape.hash_block) (tree_over shape salt data_image)

-- the number of sectors of hash block 0
abbrev pub first_sectors : SuperRecord → ℕ
first_sectors s = s.hash_block / 512

-- the number of sectors that formatting writes: those of hash block 0 and the tree
abbrev pub image_sectors : ShapeRecord → ℕ
image_sectors shape = blocks_sectors (1 + area_blocks shape) shape.hash_block

-- the contents of hash block 0: the superblock, padded with zeros
abbrev pub first_block : SuperRecord → List ℕ
first_block s = spelling s ++ replicate (s.hash_block - 512) 0

-- a hash image after formatting: the superblock, zeros up to hash block 1, the tree, and the sectors after it
-- unchanged
abbrev pub formatted : SuperRecord → List (List ℕ) → List (List ℕ) → List (List ℕ)
formatted s data_image hash_image =
    spliced hash_image 0 (cut_into (image_sectors (shape_of s)) (first_block s ++ concat (area_over (shape_of s) s.salt data_image)))
