-- Parts of a device: `count` sectors from sector `first` on.
use Rattle.std.specs.Prelude.{◌≡◌, ℕ, ◌+◌, ◌-◌, ◌≤◌, ◌&&◌, nat_lt, min, Bool, IsTrue, List, take, drop}
use Rattle.block_device.specs.Device.{Device}
use Rattle.device_adapters.specs.declared.part.Part.{Part}

-- the part is within the device
abbrev pub LiesInside : Device → Part → Type 0
LiesInside device part = part.first + part.count ≤ device.size

-- the part from a sector on; empty if the device ends before that sector
abbrev pub part_behind : Device → ℕ → Part
part_behind device first = record { first = min first device.size; count = device.size - first }

-- the part before a sector, which may be after the end of the device
abbrev pub part_before : Device → ℕ → Part
part_before device end = record { first = 0; count = min end device.size }

-- the parts have a sector in common: each begins before the other ends, and neither is empty
abbrev pub overlaps : Part → Part → Bool
overlaps a b = (nat_lt 0 a.count && nat_lt 0 b.count) && (nat_lt a.first (b.first + b.count) && nat_lt b.first (a.first + a.count))

-- the sectors of an image outside of a part, and the part
pub record Outside : Type 0 where
  pub place : Part
  pub before : List (List ℕ)
  pub behind : List (List ℕ)

abbrev pub outside_of : List (List ℕ) → Part → Outside
outside_of image part = record { place = part; before = take part.first image; behind = drop (part.first + part.count) image }

-- it is this part and, if the device is steady, these are the sectors outside of it
pub record StandOutside (device : Device) (part : Part) (outside : Outside) : Type 0 where
  pub place : part ≡ outside.place
  pub stands : IsTrue device.steady → outside_of device.image part ≡ outside
