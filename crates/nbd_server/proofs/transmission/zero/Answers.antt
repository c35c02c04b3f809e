use Rattle.std.proofs.Common.{replicate}
use Rattle.nbd_protocol.specs.Exports.{export_record}
use Rattle.nbd_server.specs.Failures.{write_failure}
use Rattle.nbd_server.specs.Transmission.{ReportsSpace, WritesAny, data_outcome}
use Rattle.nbd_server.proofs.ByteLemmas.{reports-done, reports-failed, settled, unsettled}
use Rattle.nbd_server.proofs.transmission.zero.Goals as goal

pub returns-in-Err-clause-value : goal.returns-in-Err-clause-value
returns-in-Err-clause-value g c =
    let does = WritesAny (export_record c.args.export.now) c.args.queue.now c.args.offset (replicate c.args.len 0) in
    let w' = c.write_zeros.new.queue in
    let error = c.in-Err.error in
    rw (c.of_write.ensures, c.stack.ensures) (unsettled c.args.fua (ReportsSpace does) w' (write_failure w'.stack.leaves error) (reports-failed does w' error c.in-Err.ensures))

pub returns-in-Ok-clause-value : goal.returns-in-Ok-clause-value
returns-in-Ok-clause-value g c =
    let does = WritesAny (export_record c.args.export.now) c.args.queue.now c.args.offset (replicate c.args.len 0) in
    settled c.args.fua (ReportsSpace does) c.write_zeros.new.queue c.settle.new.queue (data_outcome c.settle.result) (reports-done does c.write_zeros.new.queue c.in-Ok.ensures) c.settle.ensures.value
