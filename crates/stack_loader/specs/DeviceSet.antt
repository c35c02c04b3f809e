-- Sets of mapped devices.
use Rattle.std.specs.Prelude.{◌≡◌, ℕ, ◌<◌, Bool, ◌==◌, List, length, slice_index_or}
use Rattle.std.specs.Int.{bit_at}
use Rattle.stack_loader.specs.declared.device_set.DeviceSet.{DeviceSet}
use Rattle.stack_rules.specs.Records.{Configuration}
use Rattle.stack_rules.specs.Cycles.{names_device}

abbrev pub contains : DeviceSet → ℕ → Bool
contains set d = bit_at set.bits d == 1

-- set d, or the empty set if there is none
abbrev pub set_at : List DeviceSet → ℕ → DeviceSet
set_at sets d = slice_index_or sets d (record { bits = 0 })

-- set d contains e if and only if the test of d and e is true
pub record AreSets (test : ℕ → ℕ → Bool) (sets : List DeviceSet) : Type 0 where
  pub each : (d e : ℕ) → d < length sets → e < length sets → contains (set_at sets d) e ≡ test d e

-- a set for each device: the devices that its lines name
pub record AreLowerSets (c : Configuration) (sets : List DeviceSet) : Type 0 where
  pub count : length sets ≡ length c.devices
  pub named : AreSets (names_device c) sets
