use Rattle.std.proofs.lemmas.Result.{on_err_weaker, on_ok_weaker}
use Rattle.assemble_commands.proofs.EndLemmas.{ended-on, failed-copied}
use Rattle.assemble_commands.proofs.filling.copy_synced.Goals as goal

pub returns-in_err-copy_sectors-clause-err : goal.returns-in_err-copy_sectors-clause-err
returns-in_err-copy_sectors-clause-err g c = ended-on c.from_residual.result c.in_err-copy_sectors.ensures.err

pub returns-clause-ok : goal.returns-clause-ok
returns-clause-ok g c =
    on_ok_weaker c.sync.result (λ kept. record { copied_dev = g.O.BlockDev.state c.copy_sectors.new.to; copied = c.in_ok-copy_sectors.ensures.ok; kept = kept }) c.sync.ensures.ok

pub returns-clause-err : goal.returns-clause-err
returns-clause-err g c =
    on_err_weaker c.sync.result
    (λ unsynced. failed-copied (g.D.BlockDev.state c.args.from.now) (g.O.BlockDev.state c.args.to.now) (g.D.BlockDev.state c.copy_sectors.new.from) (g.O.BlockDev.state c.copy_sectors.new.to) (g.O.BlockDev.state c.sync.new.self) _
    c.in_ok-copy_sectors.ensures.ok unsynced.failed)
    c.sync.ensures.err
