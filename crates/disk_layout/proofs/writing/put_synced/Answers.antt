use Rattle.std.proofs.lemmas.Result.{on_err_weaker, on_ok_weaker}
use Rattle.disk_layout.proofs.WritingLemmas.{ended-on, failed-then}
use Rattle.disk_layout.proofs.writing.put_synced.Goals as goal

pub returns-in_err-write-clause-err : goal.returns-in_err-write-clause-err
returns-in_err-write-clause-err g c = ended-on c.from_residual.result c.in_err-write.ensures.fault

pub returns-clause-ok : goal.returns-clause-ok
returns-clause-ok g c =
    on_ok_weaker c.sync.result
    (λ kept. record { written_dev = g.D.BlockDev.state c.write.new.self; written = c.in_ok-write.ensures.moved; image = c.in_ok-write.ensures.image; kept = kept })
    c.sync.ensures.ok

pub returns-clause-err : goal.returns-clause-err
returns-clause-err g c =
    on_err_weaker c.sync.result
    (λ unsynced. failed-then (g.D.BlockDev.state c.args.device.now) (g.D.BlockDev.state c.write.new.self) (g.D.BlockDev.state c.sync.new.self) c.in_ok-write.ensures.moved.failures unsynced.failed)
    c.sync.ensures.err
