-- A part of a device as a device of its own.
use Rattle.std.specs.Prelude.{◌≡◌, ℕ, ◌+◌, ◌≤◌, List, length, take, drop, All}
use Rattle.std.proofs.Common.{arith}
use Rattle.std.proofs.lemmas.List.{length-take-le, length-drop}
use Rattle.std.proofs.lemmas.List.Elements.{All-take, All-drop}
use Rattle.block_device.specs.Device.{Device, IsSector, IsWhole, run_of}
use Rattle.device_adapters.specs.declared.part.Part.{Part}
use Rattle.device_adapters.specs.Parts.{LiesInside}

-- the size and sectors of the part; everything else is that of the whole device
abbrev pub windowed : Device → Part → Device
windowed device part = record device { size = part.count; image = run_of device.image part.first part.count }

-- the part has as many sectors as its size, each of 512 bytes
pub windowed-whole : (device : Device) (part : Part) → LiesInside device part → IsWhole device → IsWhole (windowed device part)
windowed-whole device part inside whole = record {
  length = length-take-le part.count (drop part.first device.image) (omega (arith, length-drop part.first device.image, whole.length, inside));
  sectors = All-take IsSector part.count _ (All-drop IsSector part.first _ whole.sectors);
}
