use Rattle.std.proofs.Common.{◌+◌, ◌*◌}
use Rattle.stack_rules.specs.Descend.{depth}
use Rattle.stack_rules.specs.Names.{mapped}
use Rattle.stack_lines.specs.Sources.{source_depth}
use Rattle.alignment.proofs.ends.+ends.Given as goal

-- 8 times the depth and a rank, as of reads and writes

abbrev pub decreases-lower_ends : goal.decreases-lower_ends
decreases-lower_ends l = 8 * depth l.config.now l.lower + 7

abbrev pub decreases-device_ends : goal.decreases-device_ends
decreases-device_ends l = 8 * depth l.config.now (mapped l.d.0) + 6

abbrev pub decreases-source_ends : goal.decreases-source_ends
decreases-source_ends l = 8 * source_depth l.config.now l.source + 5

abbrev pub decreases-unit_ends : goal.decreases-unit_ends
decreases-unit_ends l = 8 * depth l.config.now l.part.lower + 12

abbrev pub decreases-block_ends : goal.decreases-block_ends
decreases-block_ends l = 8 * depth l.config.now (mapped l.part.device.0) + 4
