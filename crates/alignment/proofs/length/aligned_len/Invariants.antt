use Rattle.std.proofs.Common.{◌≡◌, ◌≤◌}
use Rattle.stack_rules.specs.Names.{mapped}
use Rattle.alignment.specs.Ends.{ends_units}
use Rattle.alignment.specs.Lengths.{last_end}
use Rattle.alignment.proofs.length.aligned_len.Given as goal

-- no sector from there on ends units
abbrev pub invariant-sectors : goal.invariant-sectors
invariant-sectors l = record {
  same : last_end (ends_units l.config (mapped l.d.0)) l.first l.most ≡ last_end (ends_units l.config (mapped l.d.0)) l.first l.count;
  within : l.count ≤ l.most;
}

abbrev pub decreases-sectors : goal.decreases-sectors
decreases-sectors l = l.count
