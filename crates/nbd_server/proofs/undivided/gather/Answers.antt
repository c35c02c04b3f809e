use Rattle.std.proofs.lemmas.Result.{err_from_is_err_and}
use Rattle.nbd_protocol.specs.Exports.{export_record}
use Rattle.nbd_server.proofs.UndividedLemmas.{goes-smaller, part-all, part-lost, part-more, part-none}
use Rattle.nbd_server.proofs.undivided.gather.Goals as goal

pub pieces-init : goal.pieces-init
pieces-init g c = rw c.none-progress.ensures (part-none (export_record c.args.export.now) c.args.read c.args.queue.now c.args.out.now c.requires.room c.requires.bytes)

pub gather_next-requires-clause-bytes : goal.gather_next-requires-clause-bytes
gather_next-requires-clause-bytes g c = c.pieces.invariant.bytes

pub gather_next-requires-clause-room : goal.gather_next-requires-clause-room
gather_next-requires-clause-room g c = record { more = c.pieces-test.true; held = c.pieces.invariant.held }

pub returns-in_err-progress-clause-err : goal.returns-in_err-progress-clause-err
returns-in_err-progress-clause-err g c =
    let p = err_from_is_err_and c.from_residual.result c.from_residual.ensures.1 in
    rw (p.1, p.2)
    (part-lost (export_record c.args.export.now) c.args.read c.args.queue.now c.pieces.progress c.pieces.queue c.gather_next.new.queue c.pieces.out c.pieces.invariant c.in_err-progress.field-0.0 c.in_err-progress.ensures.err)

pub pieces-preserved : goal.pieces-preserved
pieces-preserved g c =
    part-more (export_record c.args.export.now) c.args.read c.args.queue.now c.pieces.progress c.pieces.queue c.gather_next.new.queue c.pieces.out c.pieces.invariant c.gather_next.new.out c.in_ok-progress.progress c.gather_next.auto.out
    c.in_ok-progress.ensures.ok

pub pieces-smaller : goal.pieces-smaller
pieces-smaller g c =
    let x = c.in_ok-progress.ensures.ok in
    goes-smaller (export_record c.args.export.now) c.args.read c.pieces.progress c.pieces.queue x.content c.in_ok-progress.progress c.gather_next.new.queue x.goes

pub returns-clause-ok : goal.returns-clause-ok
returns-clause-ok g c = part-all (export_record c.args.export.now) c.args.read c.args.queue.now c.pieces.progress c.pieces.queue c.pieces.out c.pieces.invariant c.pieces-test.false
