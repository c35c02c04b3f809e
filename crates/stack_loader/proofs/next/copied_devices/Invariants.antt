use Rattle.std.proofs.Common.{◌≡◌, take}
use Rattle.stack_loader.proofs.next.copied_devices.Given as goal

abbrev pub invariant-loop-device : goal.invariant-loop-device
invariant-loop-device l = l.devices.items ≡ take l.device-index l.planned
