use Rattle.std.proofs.Common.{ap}
use Rattle.std.proofs.lemmas.Result.{on_ok_weaker}
use Rattle.block_device.specs.Device.{Device}
use Rattle.repair_commands.proofs.MendLemmas.{keeps-image, on_err-weaker, sync-image, sync-more}
use Rattle.repair_commands.proofs.syncing.sync_one.Goals as goal

pub returns-then-not-write-clause-kept : goal.returns-then-not-write-clause-kept
returns-then-not-write-clause-kept g c = keeps-image (g.D.BlockDev.state c.args.device.now)

pub returns-clause-kept : goal.returns-clause-kept
returns-clause-kept g c = sync-image (g.D.BlockDev.state c.args.device.now) (g.D.BlockDev.state c.sync.new.self) c.sync.result c.sync.ensures.ok c.sync.ensures.err

pub returns-clause-counted : goal.returns-clause-counted
returns-clause-counted g c = sync-more (g.D.BlockDev.state c.args.device.now) (g.D.BlockDev.state c.sync.new.self) c.sync.result c.sync.ensures.ok c.sync.ensures.err

pub returns-clause-ok : goal.returns-clause-ok
returns-clause-ok g c = on_ok_weaker c.sync.result (λ done write. ap (λ (d : Device). d.dirty) done) c.sync.ensures.ok

pub returns-clause-err : goal.returns-clause-err
returns-clause-err g c = on_err-weaker c.sync.result (λ fails. (c.if-not-write.false, fails)) c.sync.ensures.err
