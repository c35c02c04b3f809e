-- How often the devices of an image are accessed at most; failed calls count too.
use Rattle.std.specs.Prelude.{◌≡◌, ◌⊎◌, ℕ, ◌+◌, ◌*◌, ◌<◌, ◌≤◌, false, List, Option, Result, IsErrAnd, length}
use Rattle.std.specs.List.{slice_index_or}
use Rattle.std.specs.Result.{result_err}
use Rattle.block_device.specs.Device.{Device}
use Rattle.program_io.specs.Counted.{CountedRecord}
use Rattle.tree_shape.specs.Shape.{ShapeRecord, area_blocks, levels, blocks_sectors}
use Rattle.tree_path.specs.Steps.{HasReadAtMost}
use Rattle.verity_format.specs.Image.{data_sectors}
use Rattle.tree_repair.specs.declared.repair.Plan.{Plan}
use Rattle.tree_repair.specs.declared.fault.RepairFault.{RepairFault}
use Rattle.tree_repair.specs.Repairs.{GoesPast, Repairs}
use Rattle.tree_repair.specs.Worlds.{RepairWorld}

-- ---- devices

-- at most n sectors were written
abbrev pub HasWrittenAtMost : Device → ℕ → Device → Type 0
HasWrittenAtMost old n new = new.writes ≤ old.writes + n

-- at most n sectors of each of some devices were read
pub record AreReadAtMost (old : List Device) (n : ℕ) (new : List Device) : Type 0 where
  pub count : length new ≡ length old
  pub each : (j : ℕ) → j < length old → (d : Device) → HasReadAtMost (slice_index_or old j d) n (slice_index_or new j d)

-- ---- a pass over an image

-- how many sectors the hash blocks of a tree take
abbrev pub area_block_sectors : ShapeRecord → ℕ
area_block_sectors s = blocks_sectors (area_blocks s) s.hash_block

-- Each data block is read once with its row, once alone, once to read it back if it is written, and once for each level whose
-- hash blocks are reconstructed from it. On the hash device the path to each row, and each block are read: the block once alone,
-- once to read it back, and once for each level above it. No block is written twice, or sought twice in one copy.
pub record IsOnePass (s : ShapeRecord) (w w' : RepairWorld) : Type 0 where
  pub data_reads : HasReadAtMost w.data_dev ((levels s + 3) * data_sectors s) w'.data_dev
  pub hash_reads : HasReadAtMost w.hash_dev ((2 * levels s + 1) * area_block_sectors s) w'.hash_dev
  pub data_writes : HasWrittenAtMost w.data_dev (data_sectors s) w'.data_dev
  pub hash_writes : HasWrittenAtMost w.hash_dev (area_block_sectors s) w'.hash_dev
  pub data_copies : AreReadAtMost w.data_copies (data_sectors s) w'.data_copies
  pub hash_copies : AreReadAtMost w.hash_copies (area_block_sectors s) w'.hash_copies

-- an image was repaired in one pass
pub record RepairsInOnePass (plan : Plan) (w w' : RepairWorld) (old new : Option (List ℕ)) (fault : Option RepairFault) : Type 0 where
  pub repairs : Repairs plan false w w' old new fault
  pub within : IsOnePass plan.tree.shape w w'

-- such a repair, or one that ended early; or there was no image to repair
abbrev pub IsRepairWithin : {W T : Type 0} → (W → Option (List ℕ)) → Plan → RepairWorld → RepairWorld → CountedRecord W → CountedRecord W → Result T RepairFault → Type 0
IsRepairWithin contents plan w w' old new result =
    IsErrAnd result (GoesPast plan.tree.shape w w') ⊎ RepairsInOnePass plan w w' (contents old.inner) (contents new.inner) (result_err result)
