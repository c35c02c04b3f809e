use Rattle.std.proofs.Common.{◌+◌, ◌*◌}
use Rattle.stack_rules.specs.Descend.{depth}
use Rattle.stack_rules.specs.Names.{mapped}
use Rattle.stack_lines.specs.Sources.{source_depth}
use Rattle.nbd_server.proofs.data_block.+block.Given as goal

-- 8 times the depth and a rank

abbrev pub decreases-lower_block : goal.decreases-lower_block
decreases-lower_block l = 8 * depth l.config.now l.lower + 7

abbrev pub decreases-device_block : goal.decreases-device_block
decreases-device_block l = 8 * depth l.config.now (mapped l.d.0) + 6

abbrev pub decreases-source_block : goal.decreases-source_block
decreases-source_block l = 8 * source_depth l.config.now l.source + 5

abbrev pub decreases-unit_block : goal.decreases-unit_block
decreases-unit_block l = 8 * depth l.config.now l.part.lower + 12
