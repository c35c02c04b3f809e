use Rattle.std.proofs.Common.{◌-◌, ◌+◌, ◌≤◌, ◌<◌}
use Rattle.stack_recovery.specs.Alike.{AreAlike}
use Rattle.stack_recovery.proofs.trimming.last_piece.Given as goal

-- the sectors from this one on are lost together
abbrev pub invariant-sectors : goal.invariant-sectors
invariant-sectors l = record {
  from : l.fn.first ≤ l.at;
  to : l.at ≤ l.fn.end;
  few : l.fn.end ≤ l.at + 128;
  alike : l.at < l.fn.end → AreAlike l.fn.config l.fn.d.0 l.at (l.fn.end - l.at);
}

abbrev pub decreases-sectors : goal.decreases-sectors
decreases-sectors l = l.at - l.fn.first
