use Rattle.std.proofs.Common.{ℕ}
use Rattle.linux_rules.specs.Blocks.{AreBlocks}
use Rattle.linux_rules.proofs.BlockLemmas.{SettlesSoFar}
use Rattle.linux_rules.proofs.block.settle.Given as goal

abbrev pub invariant-loop-d : goal.invariant-loop-d
invariant-loop-d l = (k : ℕ) → AreBlocks l.config k l.initial.blocks → SettlesSoFar l.config k l.d l.blocks
