use Rattle.std.proofs.Common.{◌≡◌, max, drop}
use Rattle.stack_rules.specs.Records.{Configuration}
use Rattle.stack_rules.specs.Passing.{RowsMean}
use Rattle.linux_rules.specs.Blocks.{block_in, table_block}
use Rattle.linux_rules.proofs.block.table_block.Given as goal

abbrev pub invariant-loop-i : goal.invariant-loop-i
invariant-loop-i l = (c : Configuration) → RowsMean c l.rows l.lines → max l.largest (table_block c (block_in l.blocks) (drop l.i l.lines)) ≡ table_block c (block_in l.blocks) l.lines
