use Rattle.std.proofs.Common.{◌≡◌, map}
use Rattle.serde_json.specs.View.{view}
use Rattle.scan_commands.specs.Devices.{devices_json}
use Rattle.scan_commands.proofs.devices.devices_value.Given as goal

-- the devices so far
abbrev pub invariant-devices : goal.invariant-devices
invariant-devices l = map view l.values.items ≡ devices_json l.config l.d
