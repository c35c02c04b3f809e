-- The sentences on `partitions`.
use Rattle.std.specs.Prelude.{ℕ, List, codes, Option, Some, None}
use Rattle.partition_commands.specs.declared.refusal.PartitionRefusal.{PartitionRefusal}
use Rattle.partition_commands.specs.declared.refusal.PartitionRefusal.TheVariants as refusal
use Rattle.partition_commands.specs.declared.fault.PartitionsFault.{PartitionsFault}
use Rattle.partition_commands.specs.declared.fault.PartitionsFault.TheVariants as partitions
use Rattle.manual_pages.specs.messages.Images.{verify_message}
use Rattle.manual_pages.specs.messages.Opening.{open_message}
use Rattle.manual_pages.specs.messages.Pins.{mismatch_message}
use Rattle.stack_commands.specs.messages.Images.{fec_message, image_message}

-- partitions that can't serve
unfoldable pub partition_message : PartitionRefusal → Option (List ℕ)
partition_message (refusal.Table fault) = Some (codes "there is no valid GUID partition table: give the image of the whole disk")
partition_message refusal.NoDataPartition = Some (codes "no partition has the UUID of the root hash's first half: the root may be another version's")
partition_message refusal.TwoDataPartitions = Some (codes "two partitions have the UUID of the root hash's first half: remove one")
partition_message refusal.NoVerityPartition = Some (codes "no partition has the UUID of the root hash's second half: the root may be another version's")
partition_message refusal.TwoVerityPartitions = Some (codes "two partitions have the UUID of the root hash's second half: remove one")
partition_message refusal.OutsideDevice = Some (codes "a partition ends past the end of the disk: the image was cut short")
partition_message (refusal.Superblock fault) = verify_message fault
partition_message (refusal.Unpinned mismatch) = Some (mismatch_message mismatch)

-- a command on partitions that ends early
unfoldable pub partitions_message : PartitionsFault → Option (List ℕ)
partitions_message partitions.NoMemory = None
partitions_message (partitions.Open file) = open_message file.fault
partitions_message (partitions.Pin fault) = image_message fault
partitions_message (partitions.Refused refusal) = partition_message refusal
partitions_message (partitions.Fec fault) = fec_message fault
partitions_message partitions.NotLoadable = Some (codes "'dmstack load' would refuse the stack, as one of more than 64 partitions: use '--root'")
partitions_message partitions.Write = None
