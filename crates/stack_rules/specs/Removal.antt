-- Which removals are refused, and the configuration after a removal.
use Rattle.std.specs.Prelude.{ℕ, Bool, not, ◌-◌, nat_lt, List, filter, length, Option, Some, None, if◌then◌else◌}
use Rattle.std.specs.List.{list_any, range_with_len}
use Rattle.std.specs.Option.{option_map_or}
use Rattle.std.specs.Str.{bytes_eq}
use Rattle.stack_rules.specs.declared.lower.Lower.{Lower}
use Rattle.stack_rules.specs.declared.lower.Lower.TheVariants.{Leaf as leaf, Device as device}
use Rattle.stack_rules.specs.declared.refusal.RemoveFault.{RemoveFault}
use Rattle.stack_rules.specs.declared.refusal.RemoveFault.TheVariants.{NoSuchDevice, InUse}
use Rattle.stack_rules.specs.Records.{Configuration}
use Rattle.stack_rules.specs.Names.{mapped, device_named}
use Rattle.stack_rules.specs.Cycles.{names_device}

-- a device names device d; without cycles, that is another device
abbrev pub is_in_use : Configuration → ℕ → Bool
is_in_use c d = list_any (λ e. names_device c e d) (range_with_len 0 (length c.devices))

-- the first rule that refuses to remove the device with this name
unfoldable pub removal_fault : Configuration → List ℕ → Option RemoveFault
removal_fault c name = option_map_or (λ d. if is_in_use c d then Some InUse else None) (device_named c name) (Some NoSuchDevice)

-- the configuration without that device; the others stay in order
abbrev pub after_removal : Configuration → List ℕ → Configuration
after_removal c name = record c { devices = filter (λ d. not (bytes_eq d.name name)) c.devices }

-- the index of device e after device d is removed: later ones move up by one
abbrev pub place_after : ℕ → ℕ → ℕ
place_after d e = if nat_lt d e then e - 1 else e

-- a leaf or device after device d is removed
abbrev pub lower_after : ℕ → Lower → Lower
lower_after d (leaf i) = leaf i
lower_after d (device e) = mapped (place_after d e.0)
