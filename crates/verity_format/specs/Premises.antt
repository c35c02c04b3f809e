-- Preconditions of the calls on blocks, down to those of a device.
use Rattle.std.specs.Prelude.{false, ◌≡◌, ℕ, ◌+◌, ◌*◌, ◌/◌, ◌%◌, ◌^◌, ◌<◌, ◌≤◌, All, IsTrue, List, Vec, length, min}
use Rattle.std.specs.Global.{Global}
use Rattle.block_device.specs.Device.{Device}
use Rattle.tree_shape.specs.Shape.{ShapeRecord, IsShape, is_block_size, levels}
use Rattle.hash_tree.specs.Building.{BuilderRecord, PlacedRecord}
use Rattle.verity_format.specs.Access.{largest_allocation}
use Rattle.verity_format.specs.Comparing.{LiesOn}
use Rattle.verity_format.specs.Image.{data_sectors, tree_sectors}
use Rattle.verity_format.specs.Writing.{MayStand}

-- block i of that size is within the device
pub record IsBlockOn (device : Device) (size i : ℕ) : Type 0 where
  pub some : 0 < size
  pub whole : size % 512 ≡ 0
  pub inside : i * (size / 512) + size / 512 ≤ device.size
  pub few : i * (size / 512) ≤ 2 ^ 54

-- n blocks of that size, `bytes` bytes in all, are within the device from block `first` on
pub record IsRunOn (device : Device) (block first n bytes : ℕ) : Type 0 where
  pub size : IsTrue (is_block_size block)
  pub some : 0 < n
  pub run : bytes ≡ n * block
  pub inside : (first + n) * (block / 512) ≤ min device.size (2 ^ 54)

-- the tree is within the device, and there are buffers for the hash blocks above data block i
pub record IsPathOn (shape : ShapeRecord) (device : Device) (i : ℕ) (path : List (Vec ℕ Global)) : Type 0 where
  pub index : i < shape.blocks
  pub fits : tree_sectors shape ≤ device.size
  pub valid : IsShape shape
  pub count : length path ≡ levels shape
  pub sized : All (λ b. length b.items ≡ shape.hash_block) path

-- hash blocks of that size are within the device
pub record AreBlocksOn (device : Device) (block : ℕ) (blocks : List PlacedRecord) : Type 0 where
  pub size : IsTrue (is_block_size block)
  pub inside : All (LiesOn device block) blocks

-- hash blocks of that size can be written to the device
pub record CanPutBlocks (device : Device) (block : ℕ) (blocks : List PlacedRecord) : Type 0 where
  pub size : IsTrue (is_block_size block)
  pub inside : All (MayStand device block) blocks
  pub allowed : IsTrue device.may_write

-- a builder of the shape has data blocks left, these are within the device, and at least one fits the buffer
pub record CanTake (shape : ShapeRecord) (device : Device) (builder : BuilderRecord) (bytes : ℕ) : Type 0 where
  pub ready : builder.failed ≡ false
  pub left : (0 < builder.left) × (builder.left ≤ shape.blocks)
  pub size : builder.hash_block ≡ shape.hash_block
  pub run : (shape.data_block ≤ bytes) × (bytes ≤ largest_allocation)
  pub room : data_sectors shape ≤ device.size

-- the data blocks and the tree are within their devices
pub record HaveTree (shape : ShapeRecord) (data_dev hash_dev : Device) : Type 0 where
  pub data_room : data_sectors shape ≤ data_dev.size
  pub tree_room : tree_sectors shape ≤ hash_dev.size

-- the data blocks and the tree are within their devices, and the hash device is writable
pub record CanWriteTree (shape : ShapeRecord) (data_dev hash_dev : Device) : Type 0 where
  pub data_room : data_sectors shape ≤ data_dev.size
  pub tree_room : tree_sectors shape ≤ hash_dev.size
  pub allowed : IsTrue hash_dev.may_write
