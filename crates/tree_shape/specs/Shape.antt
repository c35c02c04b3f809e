-- The shape of a hash tree in the layout of dm-verity's version 1: the number of levels, the number of blocks in each
-- level, and the position of each block on the hash device.
use Rattle.std.specs.Prelude.{ℕ, zero, suc, ◌+◌, ◌-◌, ◌*◌, ◌/◌, ◌%◌, ◌^◌, ◌≤◌, sum_by, Bool, IsTrue, ◌==◌, ◌||◌, ◌&&◌, not, nat_lt, Option, Some, None, if◌then◌else◌}
use Rattle.std.specs.Int.{div_ceil}
use Rattle.std.specs.List.{range_with_len}
use Rattle.tree_shape.specs.declared.shape.ShapeFault.{ShapeFault}
use Rattle.tree_shape.specs.declared.shape.ShapeFault.TheVariants.{BlockSize, NoBlocks, TooLarge}

-- the sizes of a data block and of a hash block in bytes, the number of data blocks, and the hash block at which the
-- tree begins
pub record ShapeRecord : Type 0 where
  pub data_block : ℕ
  pub hash_block : ℕ
  pub blocks : ℕ
  pub start : ℕ

-- the shape with these fields
abbrev pub shape_with : ℕ → ℕ → ℕ → ℕ → ShapeRecord
shape_with data_block hash_block blocks start = record { data_block = data_block; hash_block = hash_block; blocks = blocks; start = start }

-- the number of digests in a hash block
abbrev pub per_block : ShapeRecord → ℕ
per_block s = s.hash_block / 32

-- the number of times that n can be divided by p before it is 0, at most `steps`
abbrev pub divisions : ℕ → ℕ → ℕ → ℕ
divisions zero p n = 0
divisions (suc steps) p zero = 0
divisions (suc steps) p (suc n) = suc (divisions steps p (suc n / p))

-- the number of levels: the least L for which (blocks - 1) / p^L is 0
unfoldable pub levels : ShapeRecord → ℕ
levels s = divisions s.blocks (per_block s) (s.blocks - 1)

-- the number of hash blocks in level l; level 0 holds the digests of the data blocks
unfoldable pub level_blocks : ShapeRecord → ℕ → ℕ
level_blocks s l = div_ceil s.blocks (per_block s ^ (l + 1))

-- the number of hash blocks in the levels above l
unfoldable pub blocks_above : ShapeRecord → ℕ → ℕ
blocks_above s l = sum_by (level_blocks s) (range_with_len (l + 1) (levels s - (l + 1)))

-- the position of block i of level l on the hash device, in hash blocks; the top level is stored first
unfoldable pub position : ShapeRecord → ℕ → ℕ → ℕ
position s l i = s.start + blocks_above s l + i

-- the slot of digest i of a level in its hash block
unfoldable pub slot : ShapeRecord → ℕ → ℕ
slot s i = i % per_block s

-- the index of the block that is `steps` levels above data block i
unfoldable pub ancestor : ShapeRecord → ℕ → ℕ → ℕ
ancestor s steps i = i / per_block s ^ steps

-- the number of hash blocks in the whole tree
unfoldable pub area_blocks : ShapeRecord → ℕ
area_blocks s = sum_by (level_blocks s) (range_with_len 0 (levels s))

-- start + blocks, or 0 if there is no block
abbrev pub end_of : ℕ → ℕ → ℕ
end_of start zero = 0
end_of start (suc n) = start + suc n

-- the hash block after the tree's last one, or 0 if the tree has no block
unfoldable pub area_end : ShapeRecord → ℕ
area_end s = end_of s.start (area_blocks s)

-- a block size is 512, 1024, 2048 or 4096 bytes
abbrev pub is_block_size : ℕ → Bool
is_block_size n = n == 512 || n == 1024 || n == 2048 || n == 4096

-- the number of 512-byte sectors in n blocks of that size
abbrev pub blocks_sectors : ℕ → ℕ → ℕ
blocks_sectors n size = n * (size / 512)

-- more than 2^54 sectors
abbrev pub is_too_large : ℕ → Bool
is_too_large sectors = nat_lt (2 ^ 54) sectors

-- the first reason to reject a shape, in the order of the checks
unfoldable pub first_fault : ShapeRecord → Option ShapeFault
first_fault s =
    if not (is_block_size s.data_block && is_block_size s.hash_block) then Some BlockSize else
    if s.blocks == 0 then Some NoBlocks else
    if is_too_large (blocks_sectors s.blocks s.data_block) || is_too_large (blocks_sectors (area_end s) s.hash_block) then Some TooLarge
    else None

-- a valid shape: one with no fault
pub record IsShape (s : ShapeRecord) : Type 0 where
  pub data_size : IsTrue (is_block_size s.data_block)
  pub hash_size : IsTrue (is_block_size s.hash_block)
  pub some : 1 ≤ s.blocks
  pub data_fits : blocks_sectors s.blocks s.data_block ≤ 2 ^ 54
  pub tree_fits : blocks_sectors (area_end s) s.hash_block ≤ 2 ^ 54
