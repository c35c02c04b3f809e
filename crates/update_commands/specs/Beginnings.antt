-- The beginning of an update: the superblock is cleared.
use Rattle.std.specs.Prelude.{◌≡◌, ◌⊎◌, ◌<◌, ◌≤◌}
use Rattle.block_device.specs.Device.{Device}
use Rattle.image_commands.specs.Clearing.{IsCleared, IsUncleared}
use Rattle.tree_survey.specs.declared.fault.SurveyFault.TheVariants.{Image}
use Rattle.verity_commands.specs.declared.tree_fault.TreeFault.{TreeFault}
use Rattle.verity_commands.specs.declared.tree_fault.TreeFault.TheVariants.{Survey}
use Rattle.verity_format.specs.declared.verifying.VerifyFault.TheVariants.{Device as DeviceFailed, TooSmall}
use Rattle.verity_format.specs.Image.{data_sectors, image_sectors}
use Rattle.verity_format.specs.Superblock.{SuperRecord, shape_of}

-- The data blocks, and hash block 0 and the tree, fit on the devices. A superblock was cleared, and the hash device synced in any case.
pub record Begins (s : SuperRecord) (data_dev hash_dev hash_dev' : Device) : Type 0 where
  pub data_fits : data_sectors (shape_of s) ≤ data_dev.size
  pub hash_fits : image_sectors (shape_of s) ≤ hash_dev.size
  pub cleared : IsCleared hash_dev hash_dev'

-- they don't fit, and nothing was written
pub record LacksRoom (s : SuperRecord) (data_dev hash_dev hash_dev' : Device) (fault : TreeFault) : Type 0 where
  pub past : (data_dev.size < data_sectors (shape_of s)) ⊎ (hash_dev.size < image_sectors (shape_of s))
  pub is : fault ≡ Survey (Image TooSmall)
  pub same : hash_dev' ≡ hash_dev

-- they do, and the hash device failed
pub record EndsUncleared (hash_dev hash_dev' : Device) (fault : TreeFault) : Type 0 where
  pub uncleared : IsUncleared hash_dev hash_dev'
  pub is : fault ≡ Survey (Image DeviceFailed)

abbrev pub IsUnbegun : SuperRecord → Device → Device → Device → TreeFault → Type 0
IsUnbegun s data_dev hash_dev hash_dev' fault = LacksRoom s data_dev hash_dev hash_dev' fault ⊎ EndsUncleared hash_dev hash_dev' fault
