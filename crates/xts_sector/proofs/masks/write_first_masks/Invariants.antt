use Rattle.std.proofs.Common.{◌≡◌, ◌*◌}
use Rattle.aes_block.proofs.lemmas.PartLemmas.{IsWrittenTo}
use Rattle.xts_sector.specs.Tweak.{number_block, times_alpha_power}
use Rattle.xts_sector.proofs.masks.write_first_masks.Given as goal

-- the masks so far, two in each step, and the next tweak
abbrev pub invariant-loop-i : goal.invariant-loop-i
invariant-loop-i l = record {
  tweak : number_block l.tweak ≡ times_alpha_power (2 * l.i) (number_block l.fn.first);
  written : IsWrittenTo 16 (λ j. times_alpha_power j (number_block l.fn.first)) l.fn.masks l.masks (2 * l.i);
}
