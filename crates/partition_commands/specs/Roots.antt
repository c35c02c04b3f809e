-- The two partitions of a verity image, found by its root digest (Discoverable Partitions Specification, systemd): the
-- unique UUID of the data partition is the first, that of its verity partition the last 128 bits of the root digest. A
-- digest's byte k is the k-th of the UUID as it is printed; in the table the first three fields are little-endian.
use Rattle.std.specs.Prelude.{ℕ, ◌==◌, Bool, List, take, drop, find, count_by, Option, Some, None, Result, Ok, Err, if◌then◌else◌}
use Rattle.partition_table.specs.declared.partition.Partition.{Partition}
use Rattle.partition_table.specs.Partitions.{has_uuid}
use Rattle.partition_commands.specs.declared.refusal.PartitionRefusal.{PartitionRefusal}
use Rattle.partition_commands.specs.declared.refusal.PartitionRefusal.TheVariants.{NoDataPartition, TwoDataPartitions, NoVerityPartition, TwoVerityPartitions}
use Rattle.partition_commands.specs.declared.root.ImagePartitions.{ImagePartitions}

-- the one partition, of so many
abbrev pub single_partition : PartitionRefusal → PartitionRefusal → Option Partition → ℕ → Result Partition PartitionRefusal
single_partition none several None n = Err none
single_partition none several (Some p) n = if n == 1 then Ok p else Err several

-- the one with that UUID, or why there isn't one
abbrev pub single_with : PartitionRefusal → PartitionRefusal → List ℕ → List Partition → Result Partition PartitionRefusal
single_with none several uuid partitions = single_partition none several (find (has_uuid uuid) partitions) (count_by (has_uuid uuid) partitions)

-- the first and the last 16 bytes of a root digest
unfoldable pub data_partition : List Partition → List ℕ → Result Partition PartitionRefusal
data_partition partitions root = single_with NoDataPartition TwoDataPartitions (take 16 root) partitions

unfoldable pub verity_partition : List Partition → List ℕ → Result Partition PartitionRefusal
verity_partition partitions root = single_with NoVerityPartition TwoVerityPartitions (drop 16 root) partitions

-- both, or the first refusal
abbrev pub both_of : Result Partition PartitionRefusal → Result Partition PartitionRefusal → Result ImagePartitions PartitionRefusal
both_of (Err refusal) other = Err refusal
both_of (Ok p) (Err refusal) = Err refusal
both_of (Ok p) (Ok q) = Ok (record { «data» = p; verity = q })

abbrev pub image_partitions : List Partition → List ℕ → Result ImagePartitions PartitionRefusal
image_partitions partitions root = both_of (data_partition partitions root) (verity_partition partitions root)
