use Rattle.std.proofs.Common.{◌≡◌, map, take}
use Rattle.std.specs.Io.KnownBytes.{Appends}
use Rattle.nbd_protocol.specs.Exports.{export_record}
use Rattle.stack_commands.specs.ServiceLog.{exports_text}
use Rattle.stack_commands.proofs.export_log.say_exports.Given as goal

-- a line was written for each export so far
abbrev pub invariant-loop-export : goal.invariant-loop-export
invariant-loop-export g l = record {
  written : Appends (g.W.Write.contents l.initial.writer.inner) (g.W.Write.contents l.writer.inner) (exports_text l.config (map export_record (take l.export-index l.exports)));
  kept : l.writer.failed ≡ l.initial.writer.failed;
}
