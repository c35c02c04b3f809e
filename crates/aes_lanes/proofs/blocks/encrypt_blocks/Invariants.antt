use Rattle.std.proofs.Common.{◌*◌}
use Rattle.aes_block.specs.Blocks.{block}
use Rattle.aes_block.specs.Cipher.{cipher}
use Rattle.aes_block.specs.State.{IsBytes}
use Rattle.aes_block.proofs.lemmas.PartLemmas.{IsWrittenTo}
use Rattle.aes_lanes.proofs.blocks.encrypt_blocks.Given as goal

-- the blocks so far, of blocks that were bytes
abbrev pub invariant-loop-i : goal.invariant-loop-i
invariant-loop-i l = record {
  bytes : IsBytes l.fn.blocks;
  written : IsWrittenTo 16 (λ j. cipher l.key (block l.fn.blocks j)) l.fn.blocks l.blocks (16 * l.i);
}
