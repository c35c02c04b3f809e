use Rattle.std.proofs.Common.{◌≤◌, ℕ, arith, refl, subst}
use Rattle.nbd_server.specs.Status.{IsOtherKind}
use Rattle.nbd_server.specs.declared.extent.ExtentKind.TheVariants as known
use Rattle.std.proofs.lemmas.Result.{err_from_is_err_and}
use Rattle.nbd_protocol.specs.Exports.{export_record}
use Rattle.nbd_server.specs.Delivery.{next_size}
use Rattle.nbd_server.proofs.DeliveryLemmas.{hole-stuck, piece-bytes, piece-hole, piece-part, rest-left, zeros-told}
use Rattle.nbd_server.proofs.StatusLemmas.{status-other, status-zeros}
use Rattle.nbd_server.proofs.delivery.deliver_next.Goals as goal

pub piece_len-size-requires-clause-bytes : goal.piece_len-size-requires-clause-bytes
piece_len-size-requires-clause-bytes g c = rw (c.config-config.ensures.value, c.stack.ensures) c.requires.bytes

pub at-at-requires : goal.at-at-requires
at-at-requires g c = rest-left c.args.queue.now.stack.config (export_record c.args.export.now) c.args.delivery c.args.progress c.requires.bytes (omega (arith, c.requires.some))

pub status_at-status-requires-clause-bytes : goal.status_at-status-requires-clause-bytes
status_at-status-requires-clause-bytes g c =
    let w = c.args.queue.now in
    rw (c.config-config.ensures.value, c.stack.ensures)
    (piece-bytes (export_record c.args.export.now) c.args.delivery c.args.progress w w c.piece_len-size.result c.at-at.result c.at-at.ensures c.piece_len-size.ensures.bytes w.stack.config c.requires.bytes)

-- ---- it begins with zeros

pub say_zeros-requires-clause-rest : goal.say_zeros-requires-clause-rest
say_zeros-requires-clause-rest g c = rest-left c.args.queue.now.stack.config (export_record c.args.export.now) c.args.delivery c.args.progress c.requires.bytes (omega (arith, c.requires.some))

pub say_zeros-requires-clause-piece : goal.say_zeros-requires-clause-piece
say_zeros-requires-clause-piece g c =
    let s = c.status_at-status.ensures in
    piece-part c.args.delivery c.args.progress c.piece_len-size.result c.status_at-status.result.count c.piece_len-size.ensures.bytes s.some s.few

pub returns-in_err-say_zeros-clause-err : goal.returns-in_err-say_zeros-clause-err
returns-in_err-say_zeros-clause-err g c =
    let w = c.args.queue.now in
    let s = c.status_at-status.ensures in
    let count = c.status_at-status.result.count in
    let part = piece-part c.args.delivery c.args.progress c.piece_len-size.result count c.piece_len-size.ensures.bytes s.some s.few in
    let is = rw (c.config-config.ensures.value, c.stack.ensures) at c.piece_len-size.ensures.value in
    let front : count ≤ next_size w.stack.config c.args.export.now.device.0 c.args.delivery c.args.progress = omega (arith, s.few, is) in
    let told = rw (c.config-config.ensures.value, c.stack.ensures) at s.is in
    let e = export_record c.args.export.now in
    let zeros = status-zeros w.stack.config e c.at-at.result c.at-at.result c.piece_len-size.result c.status_at-status.result told c.if-status.true in
    let status = zeros-told w.stack.config e c.at-at.result c.piece_len-size.result (next_size w.stack.config c.args.export.now.device.0 c.args.delivery c.args.progress) c.status_at-status.result is told c.if-status.true in
    let old = g.W.Write.contents c.args.writer.now.inner in
    let new = g.W.Write.contents c.say_zeros.new.writer.inner in
    let p = err_from_is_err_and c.from_residual.result c.from_residual.ensures.1 in
    rw p.1 (hole-stuck (export_record c.args.export.now) c.args.delivery c.args.progress w w count c.at-at.result c.at-at.ensures part old new front zeros status refl)

pub returns-in_err-say_zeros-clause-failed : goal.returns-in_err-say_zeros-clause-failed
returns-in_err-say_zeros-clause-failed g c =
    let p = err_from_is_err_and c.from_residual.result c.from_residual.ensures.1 in
    rw p.1 c.in_err-say_zeros.ensures.failed

pub returns-then-status-clause-ok : goal.returns-then-status-clause-ok
returns-then-status-clause-ok g c =
    let w = c.args.queue.now in
    let s = c.status_at-status.ensures in
    let count = c.status_at-status.result.count in
    let part = piece-part c.args.delivery c.args.progress c.piece_len-size.result count c.piece_len-size.ensures.bytes s.some s.few in
    let is = rw (c.config-config.ensures.value, c.stack.ensures) at c.piece_len-size.ensures.value in
    let front : count ≤ next_size w.stack.config c.args.export.now.device.0 c.args.delivery c.args.progress = omega (arith, s.few, is) in
    let told = rw (c.config-config.ensures.value, c.stack.ensures) at s.is in
    let e = export_record c.args.export.now in
    let zeros = status-zeros w.stack.config e c.at-at.result c.at-at.result c.piece_len-size.result c.status_at-status.result told c.if-status.true in
    let status = zeros-told w.stack.config e c.at-at.result c.piece_len-size.result (next_size w.stack.config c.args.export.now.device.0 c.args.delivery c.args.progress) c.status_at-status.result is told c.if-status.true in
    let old = g.W.Write.contents c.args.writer.now.inner in
    let new = g.W.Write.contents c.say_zeros.new.writer.inner in
    rw c.after.ensures (piece-hole (export_record c.args.export.now) c.args.delivery c.args.progress w w count c.at-at.result c.at-at.ensures part old new front zeros status refl c.in_ok-say_zeros.ensures.ok)

pub returns-then-status-clause-kept : goal.returns-then-status-clause-kept
returns-then-status-clause-kept g c = c.in_ok-say_zeros.ensures.kept

-- ---- it is read

pub deliver_piece-requires-clause-piece : goal.deliver_piece-requires-clause-piece
deliver_piece-requires-clause-piece g c =
    let w = c.args.queue.now in
    let e = export_record c.args.export.now in
    let told = rw (c.config-config.ensures.value, c.stack.ensures) at c.status_at-status.ensures.is in
    record {
      next = rw (c.config-config.ensures.value, c.stack.ensures) at c.piece_len-size.ensures;
      other = subst (λ (k : ℕ). IsOtherKind w.stack.config e known.Zeros k) c.at-at.ensures
          (status-other w.stack.config e c.at-at.result c.at-at.result c.piece_len-size.result c.status_at-status.result told c.if-status.false);
    }
