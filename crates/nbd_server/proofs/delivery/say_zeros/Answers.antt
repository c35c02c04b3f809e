use Rattle.nbd_server.proofs.DeliveryLemmas.{then-flushed}
use Rattle.nbd_server.proofs.delivery.say_zeros.Goals as goal

pub returns : goal.returns
returns g c =
    let ok = rw c.at-at.ensures at c.in_ok-say_hole.ensures.ok in
    then-flushed g.W.Write.contents c.args.writer.now c.say_hole.new.writer c.flush.new.self _ c.flush.result ok c.in_ok-say_hole.ensures.kept c.flush.ensures
