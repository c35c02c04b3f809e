use Rattle.std.proofs.Common.{◌≡◌, ◌≢◌, ℕ, ◌-◌, ◌*◌, ◌/◌, ◌<◌, length, min}
use Rattle.aes_block.specs.Blocks.{block}
use Rattle.aes_block.proofs.lemmas.PartLemmas.{IsWrittenTo}
use Rattle.xts_sector.specs.Tweak.{times_alpha_power}
use Rattle.xts_sector.specs.Masks.{HoldMasks}
use Rattle.xts_sector.specs.Xts.{decrypted_block, encrypted_block}
use Rattle.xts_sector.proofs.decryption.decrypt_blocks.Given as goal

-- the blocks of the parts so far, and the masks of the last one
abbrev pub invariant-loop-i : goal.invariant-loop-i
invariant-loop-i l = record {
  masks : l.i ≢ 0 → HoldMasks l.fn.first (l.i - 1) l.masks;
  written : IsWrittenTo 16 (λ j. decrypted_block l.key (times_alpha_power j l.fn.first) (block l.fn.unit j)) l.fn.unit l.unit (min (32 * l.i) (length l.fn.unit / 16));
  undone : (j : ℕ) → j < min (32 * l.i) (length l.fn.unit / 16)
      → encrypted_block l.key (times_alpha_power j l.fn.first) (decrypted_block l.key (times_alpha_power j l.fn.first) (block l.fn.unit j)) ≡ block l.fn.unit j;
}
