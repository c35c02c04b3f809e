use Rattle.std.proofs.Common.{false, map, arith}
use Rattle.block_device.specs.Call.{DeviceDoes, Sync}
use Rattle.stack_engine.proofs.SyncCallLemmas.{dirty-called, syncs-all, syncs-fail, syncs-more}
use Rattle.stack_engine.proofs.lemmas.SyncLemmas.{fails-at, synced-next}
use Rattle.stack_engine.proofs.sync.sync_leaves.Goals as goal

pub leaves-preserved : goal.leaves-preserved
leaves-preserved g c =
    let state = g.D.BlockDev.state in
    let i = c.leaves.i in
    let x = c.index-devices-i.result in
    let v = c.sync_leaf.new.device in
    record {
      synced = synced-next state (map state c.args.devices.now) c.leaves.devices i x v (omega arith) c.leaves.invariant.synced c.in-Ok.ensures.ok;
      called = syncs-more state (DeviceDoes state g.D.BlockDev.does) c.args.devices.now c.leaves.devices i x v (omega arith) c.leaves.invariant.synced c.leaves.invariant.called c.in-Ok.ensures.called;
    }

pub returns-in-Err-clause-err : goal.returns-in-Err-clause-err
returns-in-Err-clause-err g c =
    fails-at g.D.BlockDev.state (map g.D.BlockDev.state c.args.devices.now) c.leaves.devices c.leaves.i c.index-devices-i.result c.sync_leaf.new.device (omega arith) c.leaves.invariant.synced
    c.in-Err.ensures.sure c.in-Err.ensures.dirty c.in-Err.ensures.err

pub returns-in-Err-clause-called : goal.returns-in-Err-clause-called
returns-in-Err-clause-called g c =
    let state = g.D.BlockDev.state in
    let does = DeviceDoes state g.D.BlockDev.does in
    let x = c.index-devices-i.result in
    let v = c.sync_leaf.new.device in
    syncs-fail state does c.args.devices.now c.leaves.devices c.leaves.i x v (omega arith) c.leaves.invariant.synced c.leaves.invariant.called
    (dirty-called state does _ v (Sync false) _ c.in-Err.ensures.dirty c.in-Err.ensures.called)

pub returns-clause-called : goal.returns-clause-called
returns-clause-called g c =
    let state = g.D.BlockDev.state in
    syncs-all state (DeviceDoes state g.D.BlockDev.does) c.args.devices.now c.leaves.devices c.leaves.i (omega arith) c.leaves.invariant.called
