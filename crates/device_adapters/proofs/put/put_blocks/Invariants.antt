use Rattle.std.proofs.Common.{◌≤◌, ◌-◌, true}
use Rattle.block_device.specs.Call.{DeviceDoes}
use Rattle.block_device.specs.CallList.{DeviceCalls}
use Rattle.device_adapters.specs.DifferingCalls.{DifferingBlocks}
use Rattle.device_adapters.proofs.PutLemmas.{IsUnderway}
use Rattle.device_adapters.proofs.put.put_blocks.Given as goal

abbrev pub invariant-parts : goal.invariant-parts
invariant-parts g l = record {
  so_far : IsUnderway (g.D.BlockDev.state l.fn.device) l.fn.first l.done l.bytes (g.D.BlockDev.state l.device);
  calls : DeviceCalls (DeviceDoes g.D.BlockDev.state g.D.BlockDev.does) (DifferingBlocks l.fn.first l.bytes l.done true) l.fn.device l.device;
  within : l.done ≤ l.sectors;
}

abbrev pub decreases-parts : goal.decreases-parts
decreases-parts g l = l.sectors - l.done
