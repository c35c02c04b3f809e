use Rattle.std.proofs.Common.{◌<◌, ◌≤◌, ◌-◌, length}
use Rattle.stack_rules.specs.Lines.{StartsBy, StartsAfter}
use Rattle.stack_config.proofs.sectors.last_start.Given as goal

abbrev pub invariant-loop-high : goal.invariant-loop-high
invariant-loop-high l = (l.low < l.high) × (l.high ≤ length l.lines) × StartsBy l.lines l.low l.sector × StartsAfter l.lines l.high l.sector

abbrev pub decreases-loop-high : goal.decreases-loop-high
decreases-loop-high l = l.high - l.low
