use Rattle.std.proofs.Common.{◌+◌, ◌*◌}
use Rattle.aes_block.specs.Blocks.{block}
use Rattle.aes_block.proofs.lemmas.PartLemmas.{IsWrittenTo}
use Rattle.xts_sector.specs.Tweak.{times_alpha_power}
use Rattle.xts_sector.proofs.masks.write_next_masks.Given as goal

-- the masks so far, two in each step
abbrev pub invariant-loop-i : goal.invariant-loop-i
invariant-loop-i l = IsWrittenTo 16 (λ j. times_alpha_power 8 (block l.fn.masks (24 + j))) l.fn.masks l.masks (2 * l.i)
