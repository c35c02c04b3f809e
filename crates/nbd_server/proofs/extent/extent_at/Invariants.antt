use Rattle.std.proofs.Common.{◌≤◌}
use Rattle.stack_rules.specs.Names.{mapped}
use Rattle.stack_meaning.specs.Meaning.{said_at}
use Rattle.nbd_server.specs.Extents.{HasKind, IsToldExtent}
use Rattle.nbd_server.proofs.extent.extent_at.Given as goal

-- the runs so far are one extent
abbrev pub invariant-loop-run : goal.invariant-loop-run
invariant-loop-run l = record {
  extent : IsToldExtent (said_at l.config (mapped l.d.0)) (HasKind l.config (mapped l.d.0)) l.first l.most l.extent;
  runs : l.run ≤ l.extent.count;
}
