use Rattle.std.proofs.Common.{◌≡◌, ◌*◌, arith, drop, length}
use Rattle.std.proofs.lemmas.List.{length-take-le}
use Rattle.nbd_protocol.specs.Exports.{export_record}
use Rattle.nbd_server.specs.Status.{touched}
use Rattle.nbd_server.proofs.DeliveryLemmas.{read-of}
use Rattle.nbd_server.proofs.FetchLemmas.{sectors-of}
use Rattle.nbd_server.proofs.delivery.read_to.Goals as goal

pub read_into-requires-clause-sectors : goal.read_into-requires-clause-sectors
read_into-requires-clause-sectors g c =
    rw c.touched-count.ensures (sectors-of c.args.queue.now.stack.config (export_record c.args.export.now) c.args.at c.args.size c.requires.bytes (omega arith))

pub returns-clause-ok : goal.returns-clause-ok
returns-clause-ok g c =
    let at = c.args.at in
    let size = c.args.size in
    let count = c.touched-count.result in
    let out = c.args.out.now in
    let cut = length-take-le (512 * count) out (omega (arith, c.touched-count.ensures, c.requires.room)) in
    let held : length c.read_into.new.out ≡ 512 * touched at size = omega (arith, c.read_into.auto.out, cut, c.touched-count.ensures) in
    read-of (export_record c.args.export.now) c.args.queue.now c.read_into.new.queue at size c.read_into.new.out (drop (512 * count) out) c.read_into.result held (rw c.touched-count.ensures at c.read_into.ensures.ok)

pub returns-clause-err : goal.returns-clause-err
returns-clause-err g c = rw c.touched-count.ensures at c.read_into.ensures.err
