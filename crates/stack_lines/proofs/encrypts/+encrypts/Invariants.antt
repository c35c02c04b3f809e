use Rattle.std.proofs.Common.{◌+◌, ◌*◌, ◌-◌, ◌≤◌}
use Rattle.stack_rules.specs.Names.{mapped}
use Rattle.stack_rules.specs.Descend.{depth}
use Rattle.stack_meaning.specs.Meaning.{said_at}
use Rattle.stack_lines.specs.Sources.{source_depth}
use Rattle.stack_lines.specs.Writing.{SomeEncrypt}
use Rattle.stack_lines.proofs.encrypts.+encrypts.Given as goal

-- 8 times the depth and a rank, as of reads and writes

abbrev pub decreases-lower_encrypts : goal.decreases-lower_encrypts
decreases-lower_encrypts l = 8 * depth l.config.now l.lower + 7

abbrev pub decreases-device_encrypts : goal.decreases-device_encrypts
decreases-device_encrypts l = 8 * depth l.config.now (mapped l.d.0) + 6

abbrev pub decreases-run_encrypts : goal.decreases-run_encrypts
decreases-run_encrypts l = 8 * source_depth l.config.now l.source + 5

-- none so far
abbrev pub invariant-device_encrypts-loop-at : goal.invariant-device_encrypts-loop-at
invariant-device_encrypts-loop-at l = record {
  within : l.at ≤ l.count;
  none : SomeEncrypt (said_at l.config (mapped l.d.0)) l.first l.at → ⊥;
}

abbrev pub decreases-device_encrypts-loop-at : goal.decreases-device_encrypts-loop-at
decreases-device_encrypts-loop-at l = l.initial.count - l.at
