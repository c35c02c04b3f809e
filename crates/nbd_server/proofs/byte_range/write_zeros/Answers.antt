use Rattle.std.proofs.Common.{ℕ, List, arith, sym, subst}
use Rattle.std.proofs.lemmas.Result.{err_from_is_err_and}
use Rattle.nbd_protocol.specs.Exports.{export_record}
use Rattle.nbd_server.specs.Transmission.{ReadsEnds, reply_data}
use Rattle.nbd_server.proofs.ByteLemmas.{zeros-unread, zeros-written}
use Rattle.nbd_server.proofs.byte_range.write_zeros.Goals as goal

pub returns-in_err-ends : goal.returns-in_err-ends
returns-in_err-ends g c =
    let p = err_from_is_err_and c.from_residual.result c.from_residual.ensures.1 in
    rw (p.1, p.2) (zeros-unread (export_record c.args.export.now) c.args.queue.now c.read_ends.new.queue c.read_ends.new.queue c.args.offset c.args.len (omega arith) c.in_err-ends.field-0.0 c.in_err-ends.ensures.err)

pub returns : goal.returns
returns g c =
    let e = export_record c.args.export.now in
    let offset = c.args.offset in
    let len = c.args.len in
    let first = c.args.queue.now in
    let mid = c.read_ends.new.queue in
    let front = c.part.result.now in
    let back = c.part-2.result.now in
    let some : ReadsEnds e first offset len front (reply_data c.in_ok-ends.ends.behind) mid = subst (λ (l : List ℕ). ReadsEnds e first offset len l (reply_data c.in_ok-ends.ends.behind) mid) (sym c.part.ensures) c.in_ok-ends.ensures.ok in
    let ends : ReadsEnds e first offset len front back mid = subst (λ (l : List ℕ). ReadsEnds e first offset len front l mid) (sym c.part-2.ensures) some in
    zeros-written e first mid c.store_zeros.new.queue offset len (omega arith) front back c.store_zeros.result ends c.store_zeros.ensures.ok c.store_zeros.ensures.err c.store_zeros.ensures.turns
