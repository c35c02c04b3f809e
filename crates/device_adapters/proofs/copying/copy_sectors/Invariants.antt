use Rattle.std.proofs.Common.{◌≤◌, ◌-◌}
use Rattle.device_adapters.specs.Copying.{AreCopied}
use Rattle.device_adapters.proofs.copying.copy_sectors.Given as goal

abbrev pub invariant-runs : goal.invariant-runs
invariant-runs g l = record {
  so_far : AreCopied (g.D.BlockDev.state l.fn.from) (g.O.BlockDev.state l.fn.to) 0 l.done (g.D.BlockDev.state l.from) (g.O.BlockDev.state l.to);
  within : l.done ≤ l.all;
}

abbrev pub decreases-runs : goal.decreases-runs
decreases-runs g l = l.all - l.done
