use Rattle.std.proofs.Common.{◌≡◌, map, take}
use Rattle.std.specs.Prelude.{flat_map}
use Rattle.std.specs.Io.KnownBytes.{Appends}
use Rattle.nbd_protocol.specs.Exports.{export_record}
use Rattle.nbd_protocol.specs.Handshake.{server_reply}
use Rattle.nbd_protocol.proofs.option_reply.say_servers.Given as goal

-- the exports so far were named
abbrev pub invariant-loop-export : goal.invariant-loop-export
invariant-loop-export g l = record {
  written : Appends (g.W.Write.contents l.initial.writer.inner) (g.W.Write.contents l.writer.inner) (flat_map server_reply (map export_record (take l.export-index l.exports)));
  kept : l.writer.failed ≡ l.initial.writer.failed;
}
