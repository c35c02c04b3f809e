use Rattle.std.proofs.Common.{◌≡◌, map, take}
use Rattle.block_device.specs.Call.{DeviceDoes}
use Rattle.stack_engine.specs.LeafCalls.{LeafCalls}
use Rattle.stack_engine.specs.Syncs.{synced_first, syncs_from}
use Rattle.stack_engine.proofs.sync.sync_leaves.Given as goal

-- the leaves so far are synced
abbrev pub invariant-leaves : goal.invariant-leaves
invariant-leaves g l = record {
  synced : map g.D.BlockDev.state l.devices ≡ synced_first l.i (map g.D.BlockDev.state l.initial.devices);
  called : LeafCalls (DeviceDoes g.D.BlockDev.state g.D.BlockDev.does) l.initial.devices (syncs_from 0 (take l.i (map g.D.BlockDev.state l.initial.devices))) l.devices;
}
