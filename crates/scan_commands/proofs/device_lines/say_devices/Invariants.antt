use Rattle.std.proofs.Common.{◌≡◌}
use Rattle.std.specs.Io.KnownBytes.{Appends}
use Rattle.scan_commands.specs.DeviceLines.{device_lines}
use Rattle.scan_commands.proofs.device_lines.say_devices.Given as goal

-- the lines so far were written
abbrev pub invariant-devices : goal.invariant-devices
invariant-devices g l = record {
  written : Appends (g.W.Write.contents l.initial.writer.inner) (g.W.Write.contents l.writer.inner) (device_lines l.config l.d);
  kept : l.writer.failed ≡ l.initial.writer.failed;
}
