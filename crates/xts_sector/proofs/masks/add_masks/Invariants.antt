use Rattle.std.proofs.Common.{◌*◌}
use Rattle.aes_block.specs.Blocks.{block}
use Rattle.aes_block.proofs.lemmas.PartLemmas.{IsWrittenTo}
use Rattle.xts_sector.specs.Blocks.{add_blocks}
use Rattle.xts_sector.proofs.masks.add_masks.Given as goal

-- the sums so far, two in each step
abbrev pub invariant-loop-i : goal.invariant-loop-i
invariant-loop-i l = IsWrittenTo 16 (λ j. add_blocks (block l.fn.blocks j) (block l.masks j)) l.fn.blocks l.blocks (2 * l.i)

-- and those of what is left
abbrev pub invariant-loop-j : goal.invariant-loop-j
invariant-loop-j l = IsWrittenTo 16 (λ j. add_blocks (block l.fn.blocks j) (block l.masks j)) l.fn.blocks l.blocks l.j
