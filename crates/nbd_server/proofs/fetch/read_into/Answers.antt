use Rattle.nbd_protocol.specs.Exports.{export_record}
use Rattle.nbd_server.proofs.FetchLemmas.{fetched, unfetched, named-below, not-refused, piece-inside}
use Rattle.nbd_server.proofs.fetch.read_into.Goals as goal

pub returns-in-Ok-clause-ok : goal.returns-in-Ok-clause-ok
returns-in-Ok-clause-ok g c = fetched c.args.queue.now c.read_bytes.new.self c.args.export.now.device.0 c.args.first c.args.count _ c.requires.room c.read_bytes.new.out c.in-Ok.ensures.step c.in-Ok.ensures.pieces

pub returns-in-Err-Failed-clause-err : goal.returns-in-Err-Failed-clause-err
returns-in-Err-Failed-clause-err g c =
    let ended = rw c.in-Err-Failed.field-0-is at c.in-Err-Failed.ensures in
    let piece = c.in-Err-Failed.piece in
    unfetched c.args.queue.now c.read_bytes.new.self c.args.export.now.device.0 c.args.first c.args.count _ c.requires.room piece ended.step ended.pieces c.of_read.result (rw (c.config-config.ensures.value, c.stack.ensures) at c.of_read.ensures) ended.memory

pub of_read-requires : goal.of_read-requires
of_read-requires g c =
    let ended = rw c.in-Err-Failed.field-0-is at c.in-Err-Failed.ensures in
    rw (c.config-config.ensures.value, c.stack.ensures)
    (piece-inside c.args.queue.now c.read_bytes.new.self c.args.export.now.device.0 c.args.first c.args.count _ c.requires.room c.in-Err-Failed.piece ended.step ended.pieces c.requires.sectors.inside)

pub unreachable-requires : goal.unreachable-requires
unreachable-requires g c =
    let ended = rw c.in-Err-Refused.field-0-is at c.in-Err-Refused.ensures in
    let e = c.requires.sectors.export in
    not-refused c.args.queue.now c.read_bytes.new.self c.args.export.now.device.0 c.args.first c.args.count _ c.requires.room _
    (named-below c.args.queue.now.stack.config (export_record c.args.export.now).name c.args.export.now.device.0 e.found) c.requires.sectors.inside ended.step.0
