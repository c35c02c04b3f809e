use Rattle.std.proofs.Common.{◌≡◌, ◌+◌, ◌*◌, ◌-◌, ◌≤◌, ◌⊎◌, false}
use Rattle.stack_rules.specs.Names.{mapped}
use Rattle.stack_rules.specs.Descend.{depth}
use Rattle.stack_lines.specs.Cuts.{PutsInSteps}
use Rattle.stack_meaning.specs.Puts.{in_one_run, put_on}
use Rattle.stack_lines.specs.Sources.{source_depth}
use Rattle.stack_lines.proofs.cuts.+cuts.Given as goal

-- 8 times the depth and a rank, as of reads and writes

abbrev pub decreases-lower_cuts : goal.decreases-lower_cuts
decreases-lower_cuts l = 8 * depth l.config.now l.lower + 7

abbrev pub decreases-device_cuts : goal.decreases-device_cuts
decreases-device_cuts l = 8 * depth l.config.now (mapped l.d.0) + 6

abbrev pub decreases-run_cuts : goal.decreases-run_cuts
decreases-run_cuts l = 8 * source_depth l.config.now l.source + 5

-- the sectors so far are split after each step, and a run begins after them
abbrev pub invariant-device_cuts-loop-at : goal.invariant-device_cuts-loop-at
invariant-device_cuts-loop-at l = record {
  within : l.at ≤ l.count;
  apart : (l.at ≡ 0) ⊎ ((l.at ≡ l.count) ⊎ (in_one_run l.config l.d.0 (l.first + l.at - 1) ≡ false));
  so_far : PutsInSteps (put_on l.config (mapped l.d.0)) l.first l.at l.steps;
}

abbrev pub decreases-device_cuts-loop-at : goal.decreases-device_cuts-loop-at
decreases-device_cuts-loop-at l = l.initial.count - l.at
