use Rattle.std.proofs.lemmas.Result.{err_from_is_err_and}
use Rattle.nbd_protocol.specs.Exports.{export_record}
use Rattle.nbd_server.specs.Delivery.{IsDeliveryPiece}
use Rattle.nbd_server.specs.Transmission.{reply_data}
use Rattle.nbd_server.proofs.PrefetchLemmas.{part-failed, part-read}
use Rattle.nbd_server.proofs.prefetch.prefetch_next.Goals as goal

pub returns-in_err-_data-clause-err : goal.returns-in_err-_data-clause-err
returns-in_err-_data-clause-err g c =
    let w = c.args.queue.now in
    let piece : IsDeliveryPiece w.stack.config c.args.export.now.device.0 c.args.range c.args.progress c.piece_len-size.result = rw (c.config-config.ensures.value, c.stack.ensures) at c.piece_len-size.ensures in
    let p = err_from_is_err_and c.from_residual.result c.from_residual.ensures.1 in
    rw (p.1, p.2)
    (part-failed (export_record c.args.export.now) c.args.range c.args.progress w c.read_undivided.new.queue c.piece_len-size.result c.at-at.result c.at-at.ensures piece c.in_err-_data.field-0.0 c.in_err-_data.ensures.value)

pub returns-clause-ok : goal.returns-clause-ok
returns-clause-ok g c =
    let w = c.args.queue.now in
    let piece : IsDeliveryPiece w.stack.config c.args.export.now.device.0 c.args.range c.args.progress c.piece_len-size.result = rw (c.config-config.ensures.value, c.stack.ensures) at c.piece_len-size.ensures in
    part-read (export_record c.args.export.now) c.args.range c.args.progress w c.read_undivided.new.queue c.piece_len-size.result c.at-at.result c.at-at.ensures piece (reply_data c.in_ok-_data._data) c.in_ok-_data.ensures.value c.after.result
    c.after.ensures
