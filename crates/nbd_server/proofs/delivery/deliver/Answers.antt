use Rattle.std.proofs.Common.{◌∙◌, refl}
use Rattle.std.proofs.lemmas.Result.{err_from_is_err_and}
use Rattle.nbd_protocol.specs.Exports.{export_record}
use Rattle.nbd_server.proofs.DeliveryLemmas.{goes-smaller, underway-all, underway-lost, underway-more, underway-none, underway-stuck}
use Rattle.nbd_server.proofs.delivery.deliver.Goals as goal

pub pieces-init : goal.pieces-init
pieces-init g c = record {
  underway = rw c.none-progress.ensures (underway-none (export_record c.args.export.now) c.args.delivery c.args.queue.now (g.W.Write.contents c.args.writer.now.inner) c.requires);
  kept = refl;
}

pub deliver_next-requires-clause-bytes : goal.deliver_next-requires-clause-bytes
deliver_next-requires-clause-bytes g c = c.pieces.invariant.underway.bytes

pub returns-in_err-next-clause-failed : goal.returns-in_err-next-clause-failed
returns-in_err-next-clause-failed g c =
    let p = err_from_is_err_and c.from_residual.result c.from_residual.ensures.1 in
    rw p.1 c.in_err-next.ensures.failed

pub returns-in_err-next-clause-stuck : goal.returns-in_err-next-clause-stuck
returns-in_err-next-clause-stuck g c =
    let old = g.W.Write.contents c.args.writer.now.inner in
    let mid = g.W.Write.contents c.pieces.writer.inner in
    let new = g.W.Write.contents c.deliver_next.new.writer.inner in
    let p = err_from_is_err_and c.from_residual.result c.from_residual.ensures.1 in
    rw p.1 (underway-stuck (export_record c.args.export.now) c.args.delivery c.args.queue.now c.pieces.progress c.pieces.queue c.deliver_next.new.queue old mid new c.pieces.invariant.underway c.in_err-next.ensures.err)

pub returns-in-Err-clause-reply : goal.returns-in-Err-clause-reply
returns-in-Err-clause-reply g c =
    let old = g.W.Write.contents c.args.writer.now.inner in
    let mid = g.W.Write.contents c.pieces.writer.inner in
    let new = g.W.Write.contents c.deliver_next.new.writer.inner in
    underway-lost (export_record c.args.export.now) c.args.delivery c.args.queue.now c.pieces.progress c.pieces.queue c.deliver_next.new.queue old mid new c.pieces.invariant.underway c.in-Err.error c.fault.result c.fault.ensures
    (rw c.in-Err.is at c.in_ok-next.ensures.ok)

pub returns-in-Err-clause-kept : goal.returns-in-Err-clause-kept
returns-in-Err-clause-kept g c = c.in_ok-next.ensures.kept ∙ c.pieces.invariant.kept

pub pieces-preserved : goal.pieces-preserved
pieces-preserved g c =
    let old = g.W.Write.contents c.args.writer.now.inner in
    let mid = g.W.Write.contents c.pieces.writer.inner in
    let new = g.W.Write.contents c.deliver_next.new.writer.inner in
    record {
      underway = underway-more (export_record c.args.export.now) c.args.delivery c.args.queue.now c.pieces.progress c.pieces.queue c.deliver_next.new.queue old mid new c.pieces.invariant.underway c.in-Ok.next (rw c.in-Ok.is at c.in_ok-next.ensures.ok);
      kept = c.in_ok-next.ensures.kept ∙ c.pieces.invariant.kept;
    }

pub pieces-smaller : goal.pieces-smaller
pieces-smaller g c =
    let a = rw c.in-Ok.is at c.in_ok-next.ensures.ok in
    goes-smaller (export_record c.args.export.now) c.args.delivery c.pieces.progress c.pieces.queue a.0 c.in-Ok.next c.deliver_next.new.queue a.1

pub returns-clause-reply : goal.returns-clause-reply
returns-clause-reply g c =
    underway-all (export_record c.args.export.now) c.args.delivery c.args.queue.now c.pieces.progress c.pieces.queue (g.W.Write.contents c.args.writer.now.inner) (g.W.Write.contents c.pieces.writer.inner) c.pieces.invariant.underway c.pieces-test.false

pub returns-clause-kept : goal.returns-clause-kept
returns-clause-kept g c = c.pieces.invariant.kept
