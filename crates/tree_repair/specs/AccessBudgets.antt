-- How many accesses the steps of a pass over an image may still make: before a step, and after it.
use Rattle.std.specs.Prelude.{◌≡◌, ℕ, zero, suc, ◌+◌, ◌-◌, ◌*◌, ◌/◌, ◌^◌, ◌<◌, ◌≤◌, List, length, map, Option, None, Some, Vec}
use Rattle.std.specs.Int.{div_ceil}
use Rattle.std.specs.List.{slice_index_or}
use Rattle.block_device.specs.Device.{Device}
use Rattle.tree_shape.specs.Shape.{ShapeRecord, ancestor, levels, per_block}
use Rattle.tree_repair.specs.declared.place.Row.{Row}
use Rattle.tree_repair.specs.declared.remaking.Making.{Making}
use Rattle.tree_path.specs.Steps.{HasReadAtMost}
use Rattle.tree_repair.specs.Bounds.{AreReadAtMost, HasWrittenAtMost, area_block_sectors}
use Rattle.tree_repair.specs.Runs.{size_at}
use Rattle.tree_repair.specs.Worlds.{RepairWorld}
use Rattle.verity_format.specs.Image.{data_sectors}

-- How many sectors of the data device and of the hash device may be read, and how many may be written there and read from each
-- copy.
pub record Bill : Type 0 where
  pub data_reads : ℕ
  pub hash_reads : ℕ
  pub data_once : ℕ
  pub hash_once : ℕ

-- only reads of the two devices
abbrev pub reading : ℕ → ℕ → Bill
reading d t = record { data_reads = d; hash_reads = t; data_once = 0; hash_once = 0 }

abbrev pub nothing_due : Bill
nothing_due = reading 0 0

-- a block of n sectors was read, sought in each copy, and written, each at most once
pub record IsAskedOnce (n : ℕ) (old new : Device) (copies copies' : List Device) : Type 0 where
  pub reads : HasReadAtMost old n new
  pub writes : HasWrittenAtMost old n new
  pub copies_read : AreReadAtMost copies n copies'

-- a block as long as a buffer was read, sought in each copy, and written, each at most once
abbrev pub AsksOnce : {B C Z : Type 0} → (B → Device) → (C → Device) → List ℕ → B → B → Vec C Z → Vec C Z → Type 0
AsksOnce state copy_state block old new copies copies' = IsAskedOnce (length block / 512) (state old) (state new) (map copy_state copies.items) (map copy_state copies'.items)

-- such a block of the hash device of an image
abbrev pub AsksHashOnce : List ℕ → RepairWorld → RepairWorld → Type 0
AsksHashOnce block w w' = IsAskedOnce (length block / 512) w.hash_dev w'.hash_dev w.hash_copies w'.hash_copies

-- of each of some devices `a` sectors could be read before, and `b` still can be
pub record AreEachLeft (a b : ℕ) (old new : List Device) : Type 0 where
  pub count : length new ≡ length old
  pub each : (j : ℕ) → j < length old → (d : Device) → (slice_index_or new j d).reads + b ≤ (slice_index_or old j d).reads + a

-- `a` may be accessed before, and `b` after
pub record LeavesWorld (a b : Bill) (w w' : RepairWorld) : Type 0 where
  pub data_reads : w'.data_dev.reads + b.data_reads ≤ w.data_dev.reads + a.data_reads
  pub hash_reads : w'.hash_dev.reads + b.hash_reads ≤ w.hash_dev.reads + a.hash_reads
  pub data_writes : w'.data_dev.writes + b.data_once ≤ w.data_dev.writes + a.data_once
  pub hash_writes : w'.hash_dev.writes + b.hash_once ≤ w.hash_dev.writes + a.hash_once
  pub data_copies : AreEachLeft a.data_once b.data_once w.data_copies w'.data_copies
  pub hash_copies : AreEachLeft a.hash_once b.hash_once w.hash_copies w'.hash_copies

-- ---- the blocks over n data blocks

-- the sectors of the blocks of a height over n data blocks
abbrev pub sectors_over : ShapeRecord → ℕ → ℕ → ℕ
sectors_over s h n = div_ceil n (per_block s ^ h) * (size_at s h / 512)

-- their sectors on the data device, and on the hash device
abbrev pub data_over : ShapeRecord → ℕ → ℕ → ℕ
data_over s zero n = sectors_over s zero n
data_over s (suc l) n = 0

abbrev pub hash_over : ShapeRecord → ℕ → ℕ → ℕ
hash_over s zero n = 0
hash_over s (suc l) n = sectors_over s (suc l) n

-- the sectors of the hash blocks of a height and of all heights below it
abbrev pub hash_up_to : ShapeRecord → ℕ → ℕ → ℕ
hash_up_to s zero n = 0
hash_up_to s (suc l) n = sectors_over s (suc l) n + hash_up_to s l n

-- each block of a height is read once
abbrev pub made_over : ShapeRecord → ℕ → ℕ → Bill
made_over s h n = reading (data_over s h n) (hash_over s h n)

-- the data blocks, and each hash block of the l lowest levels
abbrev pub beneath_over : ShapeRecord → ℕ → ℕ → Bill
beneath_over s l n = reading (sectors_over s zero n) (hash_up_to s l n)

-- each block of a height is visited: it is read, sought and written once, and all blocks below it are read once
abbrev pub visits_over : ShapeRecord → ℕ → ℕ → Bill
visits_over s h n = record { data_reads = sectors_over s zero n; hash_reads = hash_up_to s h n; data_once = data_over s h n; hash_once = hash_over s h n }

-- in addition, each written block is read back
abbrev pub checks_over : ShapeRecord → ℕ → ℕ → Bill
checks_over s h n = record (visits_over s h n) { data_reads = sectors_over s zero n + data_over s h n; hash_reads = hash_up_to s h n + hash_over s h n }

-- in addition, data blocks are read once with their row
abbrev pub rows_over : ShapeRecord → ℕ → ℕ → Bill
rows_over s h n = record (checks_over s h n) { data_reads = sectors_over s zero n + data_over s h n + data_over s h n }

-- in addition, the hash blocks on the path to each row are read
abbrev pub height_over : ShapeRecord → ℕ → ℕ → Bill
height_over s h n = record (rows_over s h n) { hash_reads = hash_up_to s h n + hash_over s h n + sectors_over s (suc h) n * (levels s - h) }

-- a visit of each block of a height
abbrev pub LeavesHeight : ShapeRecord → ℕ → RepairWorld → RepairWorld → Type 0
LeavesHeight s h w w' = LeavesWorld (height_over s h s.blocks) nothing_due w w'

-- the sectors of the hash blocks on the path to a block of a height
abbrev pub way_sectors : ShapeRecord → ℕ → ℕ
way_sectors s h = (levels s - h) * (s.hash_block / 512)

-- a row of data blocks is read
abbrev pub row_reads : ShapeRecord → Row → Bill
row_reads s row = reading (data_over s row.height (row.end - row.first)) 0

-- n data blocks of a device are read
abbrev pub ReadsData : {D : Type 0} → (D → Device) → ShapeRecord → ℕ → D → D → Type 0
ReadsData state s n old new = HasReadAtMost (state old) (n * (s.data_block / 512)) (state new)

-- a block of a height is read
abbrev pub block_read : ShapeRecord → ℕ → Bill
block_read s zero = reading (s.data_block / 512) 0
block_read s (suc l) = reading 0 (s.hash_block / 512)

-- a pass over all heights
abbrev pub pass_over : ShapeRecord → Bill
pass_over s = record { data_reads = (levels s + 3) * data_sectors s; hash_reads = (2 * levels s + 1) * area_block_sectors s; data_once = data_sectors s; hash_once = area_block_sectors s }

-- how many of the remaining data blocks a piece took: all of them if it didn't verify
abbrev pub piece_of : ℕ → Option ℕ → ℕ
piece_of left None = left
piece_of left (Some count) = count

-- ---- one block, and one row

-- how many data blocks follow from block k of a height on
abbrev pub left_of : ShapeRecord → ℕ → ℕ → ℕ
left_of s h k = s.blocks - k * per_block s ^ h

-- the accesses that block k of a height may make were made
abbrev pub LeavesBlock : (ℕ → Bill) → ShapeRecord → ℕ → ℕ → RepairWorld → RepairWorld → Type 0
LeavesBlock due s h k w w' = LeavesWorld (due (left_of s h k)) (due (left_of s h (k + 1))) w w'

-- the accesses for a block that is made from blocks of a lower height
abbrev pub LeavesMade : ShapeRecord → Making → RepairWorld → RepairWorld → Type 0
LeavesMade s m w w' = LeavesBlock (made_over s m.from) s (m.from + m.steps) m.number w w'

-- the accesses for a visit of the block above data block i
abbrev pub LeavesVisit : ShapeRecord → ℕ → ℕ → RepairWorld → RepairWorld → Type 0
LeavesVisit s h i w w' = LeavesBlock (visits_over s h) s h (ancestor s h i) w w'

-- the accesses for such a visit, and for reading the block back if it was written
abbrev pub LeavesChecked : ShapeRecord → ℕ → ℕ → RepairWorld → RepairWorld → Type 0
LeavesChecked s h i w w' = LeavesBlock (checks_over s h) s h (ancestor s h i) w w'

-- a visit of a hash block of level l, and of all blocks below it
abbrev pub LeavesHashVisit : ShapeRecord → ℕ → ℕ → RepairWorld → RepairWorld → Type 0
LeavesHashVisit s l i w w' = LeavesVisit s (suc l) i w w'

abbrev pub LeavesBeneath : ShapeRecord → ℕ → ℕ → RepairWorld → RepairWorld → Type 0
LeavesBeneath s l i w w' = LeavesBlock (beneath_over s l) s (suc l) (ancestor s (suc l) i) w w'

-- the accesses for the blocks of a row
abbrev pub LeavesRow : (ShapeRecord → ℕ → ℕ → Bill) → ShapeRecord → Row → RepairWorld → RepairWorld → Type 0
LeavesRow due s row w w' = LeavesWorld (due s row.height (s.blocks - row.first)) (due s row.height (s.blocks - row.first - per_block s ^ (row.height + 1))) w w'
