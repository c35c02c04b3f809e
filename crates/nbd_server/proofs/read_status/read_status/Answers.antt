use Rattle.std.proofs.Common.{◌≡◌, ℕ, List, arith, length, Ok, Err, inr, subst}
use Rattle.std.specs.Prelude.{IfOk, false}
use Rattle.nbd_protocol.specs.Exports.{export_record}
use Rattle.nbd_server.specs.Status.{HasReadStatus, descriptor}
use Rattle.nbd_server.specs.Transmission.{ReadsStatus, StaysOrReads, reply_data}
use Rattle.nbd_server.proofs.DeliveryLemmas.{part-size}
use Rattle.nbd_server.proofs.ReadStatusLemmas.{look-is, ok-as, on_err, part-ignores, unread-status}
use Rattle.nbd_server.proofs.read_status.read_status.Goals as goal

pub read_bytes-requires : goal.read_bytes-requires
read_bytes-requires g c = record { export = c.requires.bytes.export; within = omega (arith, c.requires.bytes.within, c.min-room.ensures, c.from.ensures) }

pub tell_runs-requires-clause-some : goal.tell_runs-requires-clause-some
tell_runs-requires-clause-some g c =
    let size = part-size c.in-Ok.content.bytes.items c.in-Ok.content.start c.in-Ok.content.length c.in-Ok.ensures.inside in
    let look = look-is c.args.offset c.args.one c.room_at.result c.from.result c.args.count c.min-room.result c.room_at.ensures c.from.ensures c.min-room.ensures c.requires.some in
    rw c.part.ensures (omega (arith, size, c.in-Ok.ensures.size, look.some))

pub tell_runs-requires-clause-few : goal.tell_runs-requires-clause-few
tell_runs-requires-clause-few g c =
    let size = part-size c.in-Ok.content.bytes.items c.in-Ok.content.start c.in-Ok.content.length c.in-Ok.ensures.inside in
    let look = look-is c.args.offset c.args.one c.room_at.result c.from.result c.args.count c.min-room.result c.room_at.ensures c.from.ensures c.min-room.ensures c.requires.some in
    rw c.part.ensures (omega (arith, size, c.in-Ok.ensures.size, look.small))

pub tell_runs-requires-clause-place : goal.tell_runs-requires-clause-place
tell_runs-requires-clause-place g c =
    let size = part-size c.in-Ok.content.bytes.items c.in-Ok.content.start c.in-Ok.content.length c.in-Ok.ensures.inside in
    rw c.part.ensures (omega (arith, size, c.in-Ok.ensures.size, c.min-room.ensures, c.from.ensures, c.requires.bytes.within, c.requires.bytes.export.fits))

pub returns-in-Ok-clause-ok : goal.returns-in-Ok-clause-ok
returns-in-Ok-clause-ok g c =
    let e = export_record c.args.export.now in
    let w = c.args.queue.now in
    let w' = c.read_bytes.new.queue in
    let at = c.args.offset in
    let one = c.args.one in
    let content = reply_data c.in-Ok.content in
    let look = look-is at one c.room_at.result c.from.result c.args.count c.min-room.result c.room_at.ensures c.from.ensures c.min-room.ensures c.requires.some in
    let size : length content ≡ c.min-room.result = omega (arith, part-size c.in-Ok.content.bytes.items c.in-Ok.content.start c.in-Ok.content.length c.in-Ok.ensures.inside, c.in-Ok.ensures.size) in
    let reads = part-ignores e w at c.args.count one c.min-room.result (Ok content) w' look c.requires.ignoring c.in-Ok.ensures.value in
    ok-as c.tell_runs.result (λ told. HasReadStatus (Ok content) at (length content) one told.items) (λ told. ReadsStatus e w at c.args.count one told.items w')
    (λ told status. record { size = c.min-room.result; outcome = Ok content; reads = reads; status = subst (λ (n : ℕ). HasReadStatus (Ok content) at n one told.items) size status })
    (subst (λ (b : List ℕ). IfOk c.tell_runs.result (λ told. HasReadStatus (Ok b) at (length b) one told.items)) c.part.ensures c.tell_runs.ensures.ok)

pub returns-in-Ok-clause-err : goal.returns-in-Ok-clause-err
returns-in-Ok-clause-err g c =
    let e = export_record c.args.export.now in
    let w = c.args.queue.now in
    let content = reply_data c.in-Ok.content in
    let look = look-is c.args.offset c.args.one c.room_at.result c.from.result c.args.count c.min-room.result c.room_at.ensures c.from.ensures c.min-room.ensures c.requires.some in
    let reads = part-ignores e w c.args.offset c.args.count c.args.one c.min-room.result (Ok content) c.read_bytes.new.queue look c.requires.ignoring c.in-Ok.ensures.value in
    on_err c.tell_runs.result (StaysOrReads e w c.args.offset c.args.count c.args.one c.read_bytes.new.queue) (inr (c.args.count, c.min-room.result, Ok content, omega arith, reads))

pub returns-in-Err-clause-ok : goal.returns-in-Err-clause-ok
returns-in-Err-clause-ok g c =
    let e = export_record c.args.export.now in
    let w = c.args.queue.now in
    let w' = c.read_bytes.new.queue in
    let at = c.args.offset in
    let size = c.min-room.result in
    let error = c.in-Err._error in
    let look = look-is at c.args.one c.room_at.result c.from.result c.args.count size c.room_at.ensures c.from.ensures c.min-room.ensures c.requires.some in
    let reads = part-ignores e w at c.args.count c.args.one size (Err error) w' look c.requires.ignoring c.in-Err.ensures.value in
    ok-as c.first_status.result (λ told. told.items ≡ descriptor (record { count = size; zeros = false })) (λ told. ReadsStatus e w at c.args.count c.args.one told.items w')
    (λ told is. record { size = size; outcome = Err error; reads = reads; status = unread-status at size error c.args.one told.items look.some is }) c.first_status.ensures.ok

pub returns-in-Err-clause-err : goal.returns-in-Err-clause-err
returns-in-Err-clause-err g c =
    let e = export_record c.args.export.now in
    let w = c.args.queue.now in
    let error = c.in-Err._error in
    let look = look-is c.args.offset c.args.one c.room_at.result c.from.result c.args.count c.min-room.result c.room_at.ensures c.from.ensures c.min-room.ensures c.requires.some in
    let reads = part-ignores e w c.args.offset c.args.count c.args.one c.min-room.result (Err error) c.read_bytes.new.queue look c.requires.ignoring c.in-Err.ensures.value in
    on_err c.first_status.result (StaysOrReads e w c.args.offset c.args.count c.args.one c.read_bytes.new.queue) (inr (c.args.count, c.min-room.result, Err error, omega arith, reads))
