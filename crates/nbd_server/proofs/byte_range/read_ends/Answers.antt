use Rattle.std.proofs.Common.{◌+◌, ◌-◌, ◌%◌, Ok, Err, subst, sym}
use Rattle.std.proofs.lemmas.Result.{err_from_is_err_and}
use Rattle.nbd_protocol.specs.Exports.{export_record}
use Rattle.stack_rules.specs.Records.{Configuration}
use Rattle.nbd_server.specs.Premises.{AreBytesOf}
use Rattle.nbd_server.specs.Reads.{ReadsExport}
use Rattle.nbd_server.specs.Transmission.{reply_data, room_behind}
use Rattle.nbd_server.proofs.ByteLemmas.{ends-unread}
use Rattle.nbd_server.proofs.FetchLemmas.{bytes-behind}
use Rattle.nbd_server.proofs.PieceLemmas.{read-config}
use Rattle.nbd_server.proofs.byte_range.read_ends.Goals as goal

pub returns-in_err-behind-clause-err : goal.returns-in_err-behind-clause-err
returns-in_err-behind-clause-err g c =
    let e = export_record c.args.export.now in
    let offset = c.args.offset in
    let len = c.args.len in
    let mid = c.read_bytes.new.queue in
    let last = c.read_bytes-2.new.queue in
    let error = c.in_err-behind.field-0.0 in
    let p = err_from_is_err_and c.from_residual-in_err-behind.result c.from_residual-in_err-behind.ensures.1 in
    let second : ReadsExport e mid (offset + len) (room_behind offset len) (Err error) last = rw (c.touched.ensures, c.from.ensures) at c.in_err-behind.ensures.value in
    rw (p.1, p.2) (ends-unread e c.args.queue.now mid last offset len (reply_data c.in_ok-before.before) error c.in_ok-before.ensures.value second)

pub read_bytes-requires-2 : goal.read_bytes-requires-2
read_bytes-requires-2 g c =
    let e = export_record c.args.export.now in
    let offset = c.args.offset in
    let len = c.args.len in
    let first = c.args.queue.now in
    let config = read-config e first (offset - offset % 512) (offset % 512) (Ok (reply_data c.in_ok-before.before)) c.read_bytes.new.queue c.in_ok-before.ensures.value in
    rw (c.touched.ensures, c.from.ensures) (subst (λ (x : Configuration). AreBytesOf x e (offset + len) (room_behind offset len)) (sym config) (bytes-behind first.stack.config e offset len c.requires))
