-- Which file an open one is: whether two are one, and whether it is a block device.
use Rattle.std.specs.Prelude.{◌==◌, ◌&&◌, Bool, true, false, Option, Some, None}
use Rattle.block_device.specs.declared.file_id.FileId.{FileId}
use Rattle.block_device.specs.declared.file_id.FileId.TheVariants.{Inode, BlockDevice}

abbrev pub is_id : FileId → FileId → Bool
is_id (Inode device inode) (Inode device' inode') = (device == device') && (inode == inode')
is_id (BlockDevice device) (BlockDevice device') = device == device'
is_id id id' = false

-- both are one file; of what the system tells nothing, this isn't known
abbrev pub is_one_file : Option FileId → Option FileId → Bool
is_one_file (Some id) (Some id') = is_id id id'
is_one_file (Some id) None = false
is_one_file None id = false

-- a block device, as far as the system tells
abbrev pub is_block_device : Option FileId → Bool
is_block_device (Some (BlockDevice device)) = true
is_block_device (Some (Inode device inode)) = false
is_block_device None = false
