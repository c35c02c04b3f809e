use Rattle.nbd_protocol.specs.Exports.{export_record}
use Rattle.nbd_server.specs.Delivery.{IsDeliveryPiece}
use Rattle.nbd_server.proofs.UndividedLemmas.{unread-err, unread-ok}
use Rattle.nbd_server.proofs.undivided.gather_next.Goals as goal

pub returns-in-Err-clause-ok : goal.returns-in-Err-clause-ok
returns-in-Err-clause-ok g c =
    let w = c.args.queue.now in
    let piece : IsDeliveryPiece w.stack.config c.args.export.now.device.0 c.args.read c.args.progress c.piece_len-size.result = rw (c.config-config.ensures.value, c.stack.ensures) at c.piece_len-size.ensures in
    unread-ok (export_record c.args.export.now) c.args.read c.args.progress w c.read_piece.new.queue c.piece_len-size.result c.at-at.result c.at-at.ensures piece c.in-Err.error c.in-Err.ensures.err c.args.out.now c.again.result c.again.ensures.ok

pub returns-in-Err-clause-err : goal.returns-in-Err-clause-err
returns-in-Err-clause-err g c =
    let w = c.args.queue.now in
    let piece : IsDeliveryPiece w.stack.config c.args.export.now.device.0 c.args.read c.args.progress c.piece_len-size.result = rw (c.config-config.ensures.value, c.stack.ensures) at c.piece_len-size.ensures in
    unread-err (export_record c.args.export.now) c.args.read c.args.progress w c.read_piece.new.queue c.piece_len-size.result c.at-at.result c.at-at.ensures piece c.in-Err.error c.in-Err.ensures.err c.again.result c.again.ensures.err
