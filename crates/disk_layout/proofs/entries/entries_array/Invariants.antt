use Rattle.std.proofs.Common.{◌≡◌, take}
use Rattle.std.specs.List.{flat_map}
use Rattle.disk_layout.specs.Entries.{entry_bytes}
use Rattle.disk_layout.proofs.entries.entries_array.Given as goal

-- the entries so far were appended
abbrev pub invariant-loop-partition : goal.invariant-loop-partition
invariant-loop-partition l = l.text.items ≡ flat_map entry_bytes (take l.partition-index l.partitions)
