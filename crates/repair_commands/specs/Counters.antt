-- What the devices of a repair count.
use Rattle.std.specs.Prelude.{ℕ, ◌-◌, List, length, map}
use Rattle.std.specs.List.{slice_index_or}
use Rattle.block_device.specs.Device.{Device}
use Rattle.tree_repair.specs.Worlds.{RepairWorld}
use Rattle.repair_commands.specs.declared.counters.Counters.{Counters}

-- the sectors that the last of some devices counts as read; none if there is no device
abbrev pub last_read : List Device → ℕ
last_read devices = slice_index_or (map (λ (d : Device). d.reads) devices) (length devices - 1) 0

-- the sectors written to the image, and those read from its last copy
abbrev pub counters_of : RepairWorld → Counters
counters_of w = record { data_written = w.data_dev.writes; hash_written = w.hash_dev.writes; data_read = last_read w.data_copies; hash_read = last_read w.hash_copies }
