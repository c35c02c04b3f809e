use Rattle.std.proofs.Common.{◌≡◌, max, map, drop}
use Rattle.stack_rules.specs.Descend.{greatest}
use Rattle.linux_rules.specs.Blocks.{block_in}
use Rattle.linux_rules.proofs.block.largest_block.Given as goal

abbrev pub invariant-loop-lower : goal.invariant-loop-lower
invariant-loop-lower l = max l.largest (greatest (map (block_in l.blocks) (drop l.lower-index l.lowers))) ≡ greatest (map (block_in l.blocks) l.lowers)
