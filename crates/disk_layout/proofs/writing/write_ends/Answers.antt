use Rattle.std.proofs.Common.{length}
use Rattle.std.proofs.lemmas.Result.{on_err_weaker, on_ok_weaker}
use Rattle.disk_layout.proofs.WritingLemmas.{allowed-after, ended-on, failed-then, failures-after, inside-after}
use Rattle.disk_layout.proofs.writing.write_ends.Goals as goal

pub returns-in_err-put_synced-clause-err : goal.returns-in_err-put_synced-clause-err
returns-in_err-put_synced-clause-err g c = ended-on c.from_residual.result c.in_err-put_synced.ensures.err

pub put_synced-requires-2-clause-range : goal.put_synced-requires-2-clause-range
put_synced-requires-2-clause-range g c =
    inside-after (g.D.BlockDev.state c.args.device.now) (g.D.BlockDev.state c.put_synced.new.device) c.args.last c.args.back.now c.in_ok-put_synced.ensures.ok 0 (length c.args.front.now) c.requires.ends.0

pub put_synced-requires-2-clause-allowed : goal.put_synced-requires-2-clause-allowed
put_synced-requires-2-clause-allowed g c =
    allowed-after (g.D.BlockDev.state c.args.device.now) (g.D.BlockDev.state c.put_synced.new.device) c.args.last c.args.back.now c.in_ok-put_synced.ensures.ok c.requires.allowed

pub returns-clause-ok : goal.returns-clause-ok
returns-clause-ok g c =
    on_ok_weaker c.put_synced-2.result
    (λ put. record { between = g.D.BlockDev.state c.put_synced.new.device; back_put = c.in_ok-put_synced.ensures.ok; front_put = put })
    c.put_synced-2.ensures.ok

pub returns-clause-err : goal.returns-clause-err
returns-clause-err g c =
    let old = g.D.BlockDev.state c.args.device.now in
    let mid = g.D.BlockDev.state c.put_synced.new.device in
    on_err_weaker c.put_synced-2.result
    (λ failed. failed-then old mid (g.D.BlockDev.state c.put_synced-2.new.device) (failures-after old mid c.args.last c.args.back.now c.in_ok-put_synced.ensures.ok) failed)
    c.put_synced-2.ensures.err
