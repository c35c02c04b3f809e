-- The entries of a GUID partition table (UEFI 2.10, 5.3.3, table 5.6) as bytes: what `partition_of` of `partition_table` reads.
use Rattle.std.specs.Prelude.{ℕ, List, ◌++◌}
use Rattle.std.specs.List.{flat_map}
use Rattle.partition_table.specs.declared.partition.Partition.{Partition}
use Rattle.disk_layout.specs.Numbers.{bytes64, padded, stored_uuid}

-- the UUIDs of its type and of the partition, and its first and last sector
unfoldable pub place_fields : Partition → List ℕ
place_fields p = stored_uuid p.kind ++ (stored_uuid p.uuid ++ (bytes64 p.first ++ bytes64 p.last))

-- no attribute, and the label
unfoldable pub label_fields : Partition → List ℕ
label_fields p = bytes64 0 ++ p.label

-- the 128 bytes of an entry
unfoldable pub entry_bytes : Partition → List ℕ
entry_bytes p = place_fields p ++ label_fields p

-- 128 entries: those of the partitions, and unused ones
unfoldable pub entries_array : List Partition → List ℕ
entries_array partitions = padded 16384 (flat_map entry_bytes partitions)
