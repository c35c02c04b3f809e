use Rattle.std.proofs.Common.{◌≡◌, length}
use Rattle.linux_rules.specs.Blocks.{AreBlocks}
use Rattle.linux_rules.proofs.block.blocks.Given as goal

abbrev pub invariant-loop-depth : goal.invariant-loop-depth
invariant-loop-depth l = (length l.blocks.items ≡ length l.config.devices) × AreBlocks l.config l._depth l.blocks.items
