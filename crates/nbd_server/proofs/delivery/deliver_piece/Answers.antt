use Rattle.std.proofs.Common.{◌≡◌, ◌%◌, ◌∙◌, ℕ, List, Ok, Err, ap, arith, drop, length, refl, subst, sym, take}
use Rattle.std.proofs.lemmas.Result.{err_from_is_err_and}
use Rattle.nbd_protocol.specs.Exports.{export_record}
use Rattle.nbd_protocol.specs.Chunks.{error_at_chunk}
use Rattle.nbd_server.specs.Delivery.{AreNextBytes}
use Rattle.nbd_server.specs.Failures.{failure_text, reported_error}
use Rattle.nbd_server.specs.declared.failure.Failure.{Failure}
use Rattle.nbd_server.specs.Reads.{ReadsExport}
use Rattle.nbd_server.proofs.DeliveryLemmas.{lost-stuck, part-size, piece-bytes, piece-lost, piece-put_off, piece-sent, rest-left, sent-stuck}
use Rattle.nbd_server.proofs.delivery.deliver_piece.Goals as goal

pub at-at-requires : goal.at-at-requires
at-at-requires g c = rest-left c.args.queue.now.stack.config (export_record c.args.export.now) c.args.delivery c.args.piece.progress c.requires.bytes (omega (arith, c.requires.piece.next.bytes.inside))

pub read_piece-requires : goal.read_piece-requires
read_piece-requires g c =
    let w = c.args.queue.now in
    let bytes = piece-bytes (export_record c.args.export.now) c.args.delivery c.args.piece.progress w w c.args.piece.size c.at-at.result c.at-at.ensures c.requires.piece.next.bytes w.stack.config c.requires.bytes in
    record { bytes = bytes; few = c.requires.piece.next.bytes.few }

-- ---- it was read

pub part-content-requires : goal.part-content-requires
part-content-requires g c = omega (arith, c.requires.piece.next.bytes.few)

pub say_piece-requires-clause-rest : goal.say_piece-requires-clause-rest
say_piece-requires-clause-rest g c = rest-left c.args.queue.now.stack.config (export_record c.args.export.now) c.args.delivery c.args.piece.progress c.requires.bytes (omega (arith, c.requires.piece.next.bytes.inside))

pub say_piece-requires-clause-piece : goal.say_piece-requires-clause-piece
say_piece-requires-clause-piece g c =
    let size = part-size c.read_piece.new.room.bytes (c.at-at.result % 512) c.args.piece.size c.read_piece.ensures.inside in
    let held : length c.part-content.result.now ≡ c.args.piece.size = ap (λ (l : List ℕ). length l) c.part-content.ensures ∙ size in
    subst (λ (n : ℕ). AreNextBytes c.args.delivery c.args.piece.progress n) (sym held) c.requires.piece.next.bytes

pub returns-in_err-say_piece-in-Ok-clause-err : goal.returns-in_err-say_piece-in-Ok-clause-err
returns-in_err-say_piece-in-Ok-clause-err g c =
    let old = g.W.Write.contents c.args.writer.now.inner in
    let new = g.W.Write.contents c.say_piece.new.writer.inner in
    let items = c.read_piece.new.room.bytes in
    let size = part-size items (c.at-at.result % 512) c.args.piece.size c.read_piece.ensures.inside in
    let p = err_from_is_err_and c.from_residual.result c.from_residual.ensures.1 in
    rw p.1 (sent-stuck (export_record c.args.export.now) c.args.delivery c.args.piece.progress c.args.queue.now c.read_piece.new.queue c.args.piece.size c.at-at.result c.at-at.ensures c.requires.piece old new
    (take c.args.piece.size (drop (c.at-at.result % 512) items)) (omega (arith, size, c.requires.piece.next.bytes.some)) c.in-Ok.ensures.ok)

pub returns-in_err-say_piece-in-Ok-clause-failed : goal.returns-in_err-say_piece-in-Ok-clause-failed
returns-in_err-say_piece-in-Ok-clause-failed g c =
    let p = err_from_is_err_and c.from_residual.result c.from_residual.ensures.1 in
    rw p.1 c.in_err-say_piece-in-Ok.ensures.failed

pub returns-in_ok-say_piece-in-Ok-clause-ok : goal.returns-in_ok-say_piece-in-Ok-clause-ok
returns-in_ok-say_piece-in-Ok-clause-ok g c =
    let e = export_record c.args.export.now in
    let w = c.args.queue.now in
    let w' = c.read_piece.new.queue in
    let at = c.at-at.result in
    let size = c.args.piece.size in
    let old = g.W.Write.contents c.args.writer.now.inner in
    let new = g.W.Write.contents c.say_piece.new.writer.inner in
    let content = c.part-content.result.now in
    let held : length content ≡ size = ap (λ (l : List ℕ). length l) c.part-content.ensures ∙ part-size c.read_piece.new.room.bytes (at % 512) size c.read_piece.ensures.inside in
    let reads : ReadsExport e w at size (Ok content) w' = subst (λ (l : List ℕ). ReadsExport e w at size (Ok l) w') (sym c.part-content.ensures) c.in-Ok.ensures.ok in
    rw c.after.ensures (piece-sent e c.args.delivery c.args.piece.progress w w' size at c.at-at.ensures c.requires.piece old new (length content) held content reads c.in_ok-say_piece-in-Ok.ensures.ok)

pub returns-in_ok-say_piece-in-Ok-clause-kept : goal.returns-in_ok-say_piece-in-Ok-clause-kept
returns-in_ok-say_piece-in-Ok-clause-kept g c = c.in_ok-say_piece-in-Ok.ensures.kept

-- ---- it wasn't

pub returns-in-Ok-again-clause-ok : goal.returns-in-Ok-again-clause-ok
returns-in-Ok-again-clause-ok g c =
    let old = g.W.Write.contents c.args.writer.now.inner in
    let x = c.in-Ok-again.ensures.ok in
    piece-put_off (export_record c.args.export.now) c.args.delivery c.args.piece.progress c.args.queue.now c.read_piece.new.queue c.args.piece.size c.at-at.result c.at-at.ensures c.requires.piece old old c.in-Err.error c.in-Ok-again.next c.in-Err.ensures.err
    x.0 x.1 refl

pub returns-in_err-say_error_at-in-Err-clause-err : goal.returns-in_err-say_error_at-in-Err-clause-err
returns-in_err-say_error_at-in-Err-clause-err g c =
    let e = export_record c.args.export.now in
    let w = c.args.queue.now in
    let w' = c.read_piece.new.queue in
    let old = g.W.Write.contents c.args.writer.now.inner in
    let new = g.W.Write.contents c.say_error_at.new.writer.inner in
    let at = c.at-at.result in
    let size = c.args.piece.size in
    let x = c.in-Err-again.ensures.err in
    let p = err_from_is_err_and c.from_residual-in_err-say_error_at-in-Err.result c.from_residual-in_err-say_error_at-in-Err.ensures.1 in
    rw p.1 (lost-stuck e c.args.delivery c.args.piece.progress w w' size at c.at-at.ensures c.requires.piece old new c.in-Err.error c.in-Err.ensures.err x.0)

pub returns-in_err-say_error_at-in-Err-clause-failed : goal.returns-in_err-say_error_at-in-Err-clause-failed
returns-in_err-say_error_at-in-Err-clause-failed g c =
    let p = err_from_is_err_and c.from_residual-in_err-say_error_at-in-Err.result c.from_residual-in_err-say_error_at-in-Err.ensures.1 in
    rw p.1 c.in_err-say_error_at-in-Err.ensures.failed

pub returns-in_ok-say_error_at-in-Err-clause-ok : goal.returns-in_ok-say_error_at-in-Err-clause-ok
returns-in_ok-say_error_at-in-Err-clause-ok g c =
    let e = export_record c.args.export.now in
    let w = c.args.queue.now in
    let w' = c.read_piece.new.queue in
    let old = g.W.Write.contents c.args.writer.now.inner in
    let new = g.W.Write.contents c.say_error_at.new.writer.inner in
    let at = c.at-at.result in
    let size = c.args.piece.size in
    let x = c.in-Err-again.ensures.err in
    let told = c.in-Err-again.lost in
    let reads : ReadsExport e w at size (Err told) w' = subst (λ (f : Failure). ReadsExport e w at size (Err f) w') (sym x.1) c.in-Err.ensures.err in
    let lost = piece-lost e c.args.delivery c.args.piece.progress w w' size at c.at-at.ensures c.requires.piece old new told reads x.0 in
    (error_at_chunk c.args.delivery.cookie at (reported_error told) (failure_text told), lost.0, lost.1, rw (c.reported.ensures, c.as_bytes-told.ensures.value, c.of-text.ensures) at c.in_ok-say_error_at-in-Err.ensures.ok)

pub returns-in_ok-say_error_at-in-Err-clause-kept : goal.returns-in_ok-say_error_at-in-Err-clause-kept
returns-in_ok-say_error_at-in-Err-clause-kept g c = c.in_ok-say_error_at-in-Err.ensures.kept
