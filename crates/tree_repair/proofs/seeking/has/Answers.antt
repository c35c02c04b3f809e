use Rattle.block_device.specs.Call.{DeviceDoes}
use Rattle.tree_repair.specs.RepairCalls.{IsNoWrite}
use Rattle.tree_repair.proofs.RepairCallLemmas.{calls-nothing, calls-read}
use Rattle.tree_repair.proofs.seeking.has.Goals as goal

pub returns-then-size-end-clause-called : goal.returns-then-size-end-clause-called
returns-then-size-end-clause-called g c = calls-nothing (DeviceDoes g.B.BlockDev.state g.B.BlockDev.does) IsNoWrite c.args.device.now

pub returns-clause-called : goal.returns-clause-called
returns-clause-called g c =
    calls-read (DeviceDoes g.B.BlockDev.state g.B.BlockDev.does) IsNoWrite c.args.first c.is_there.new.block c.args.device.now c.is_there.new.device c.is_there.ensures.called
