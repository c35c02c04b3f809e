use Rattle.std.proofs.Common.{◌+◌, ◌*◌}
use Rattle.stack_rules.specs.Names.{mapped}
use Rattle.stack_rules.specs.Descend.{depth}
use Rattle.stack_lines.specs.Sources.{source_depth}
use Rattle.nbd_server.proofs.extent.+extent.Given as goal

-- four times the depth and a rank

abbrev pub decreases-lower_extent : goal.decreases-lower_extent
decreases-lower_extent l = 4 * depth l.config.now l.lower + 3

abbrev pub decreases-device_extent : goal.decreases-device_extent
decreases-device_extent l = 4 * depth l.config.now (mapped l.d.0) + 2

abbrev pub decreases-source_extent : goal.decreases-source_extent
decreases-source_extent l = 4 * source_depth l.config.now l.source + 1
