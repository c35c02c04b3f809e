use Rattle.nbd_protocol.specs.Exports.{export_record}
use Rattle.nbd_server.proofs.StoreLemmas.{stored-all, unstored}
use Rattle.nbd_server.proofs.WritableLemmas.{not-refused}
use Rattle.nbd_server.proofs.store.store.Goals as goal

pub returns-in-Ok-clause-ok : goal.returns-in-Ok-clause-ok
returns-in-Ok-clause-ok g c = stored-all c.args.queue.now c.args.export.now.device.0 c.args.first c.args.bytes.now c.write_bytes.new.self c.in-Ok.ensures.written

pub returns-in-Err-Failed-clause-err : goal.returns-in-Err-Failed-clause-err
returns-in-Err-Failed-clause-err g c =
    let ended = rw c.in-Err-Failed.field-0-is at c.in-Err-Failed.ensures in
    rw c.of_put.ensures (unstored c.args.queue.now c.args.export.now.device.0 c.args.first c.args.bytes.now c.write_bytes.new.self c.in-Err-Failed.piece ended.memory ended.written)

pub unreachable-requires : goal.unreachable-requires
unreachable-requires g c =
    let ended = rw c.in-Err-Refused.field-0-is at c.in-Err-Refused.ensures in
    not-refused c.args.queue.now.stack.config (export_record c.args.export.now) c.args.first c.args.bytes.now _ c.requires.export c.requires.sectors ended.written.0
