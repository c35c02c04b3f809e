use Rattle.std.proofs.Common.{arith}
use Rattle.nbd_protocol.specs.Exports.{export_record}
use Rattle.nbd_server.proofs.FetchLemmas.{sectors-of}
use Rattle.nbd_server.proofs.byte_range.read_bytes.Goals as goal

pub fetch-requires : goal.fetch-requires
fetch-requires g c = rw c.touched-count.ensures (sectors-of c.args.queue.now.stack.config (export_record c.args.export.now) c.args.offset c.args.len c.requires (omega arith))
