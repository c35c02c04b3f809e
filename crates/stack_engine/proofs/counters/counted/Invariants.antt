use Rattle.std.proofs.Common.{◌≡◌, map, take}
use Rattle.block_device.specs.Device.{capped}
use Rattle.stack_meaning.specs.Leaves.{reads_of, writes_of}
use Rattle.stack_engine.proofs.counters.counted.Given as goal

abbrev pub invariant-loop-device : goal.invariant-loop-device
invariant-loop-device g l = record {
  reads : l.reads ≡ capped (reads_of (map g.D.BlockDev.state (take l.device-index l.devices)));
  writes : l.writes ≡ capped (writes_of (map g.D.BlockDev.state (take l.device-index l.devices)));
}
