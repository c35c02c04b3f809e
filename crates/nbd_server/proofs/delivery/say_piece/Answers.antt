use Rattle.std.proofs.Common.{◌+◌, length}
use Rattle.std.specs.Prelude.{◌==◌}
use Rattle.nbd_server.specs.Content.{TellsContent}
use Rattle.nbd_server.proofs.DeliveryLemmas.{some-flushed}
use Rattle.nbd_server.proofs.delivery.say_piece.Goals as goal

pub returns : goal.returns
returns g c =
    let d = c.args.delivery in
    let p = c.args.progress in
    let ok = rw c.at-at.ensures at c.in_ok-say_content.ensures.ok in
    some-flushed g.W.Write.contents (TellsContent d.cookie (p.done + length c.args.content.now == d.count) (d.offset + p.done) c.args.content.now) c.args.writer.now c.say_content.new.writer c.flush.new.self c.flush.result ok
    c.in_ok-say_content.ensures.kept c.flush.ensures
