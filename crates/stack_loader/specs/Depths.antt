-- Depths, computed in rounds over all devices at once.
use Rattle.std.specs.Prelude.{ℕ, zero, suc, ◌+◌, List, map, if◌then◌else◌}
use Rattle.std.specs.List.{enumerate_from}
use Rattle.stack_loader.specs.declared.device_set.DeviceSet.{DeviceSet}
use Rattle.stack_rules.specs.Descend.{greatest}
use Rattle.stack_loader.specs.DeviceSet.{contains}

-- a value if its index is in the set, and otherwise 0
abbrev pub value_in : DeviceSet → ℕ × ℕ → ℕ
value_in set p = if contains set p.0 then p.1 else 0

-- the largest of the values at the indices in a set
abbrev pub greatest_in : DeviceSet → List ℕ → ℕ
greatest_in set values = greatest (map (value_in set) (enumerate_from 0 values))

-- one round: the depth of a device is one more than the largest value of the devices that it names
abbrev pub depth_round : List DeviceSet → List ℕ → List ℕ
depth_round sets values = map (λ set. 1 + greatest_in set values) sets

-- the depths after n rounds; at first, only the device itself is counted
unfoldable pub depth_rounds : List DeviceSet → ℕ → List ℕ
depth_rounds sets zero = map (λ set. 1) sets
depth_rounds sets (suc n) = depth_round sets (depth_rounds sets n)
