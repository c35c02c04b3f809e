use Rattle.std.proofs.Common.{ap, ◌∙◌}
use Rattle.aes_block.specs.Blocks.{block}
use Rattle.xts_sector.specs.Tweak.{number_block, times_alpha_power}
use Rattle.xts_sector.proofs.TweakLemmas.{block_of-from_le_bytes}
use Rattle.xts_sector.proofs.MaskLemmas.{HoldMasks-first, HoldMasks-step}
use Rattle.xts_sector.proofs.masks.make_masks.Goals as goal
use Rattle.xts_sector.proofs.masks.make_masks.Goals.{then-i-eq0, else-i-eq0}

pub returns : goal.returns
returns c before =
    let first = c.args.first.now in
    let eight = c.if-i-eq0.masks in
    elim c.if-i-eq0.branch [
      | then-i-eq0 w ↦
          let read = ap number_block w.from_le_bytes.ensures ∙ block_of-from_le_bytes first c.told-first c.fits-first in
          HoldMasks-first first eight c.extend_masks.new.masks c.told-first c.extend_masks.ensures c.args.i w.if-i-eq0.true
          (λ j h. ap (λ ms. block ms j) w.masks-is ∙ w.write_first_masks.ensures j h ∙ ap (times_alpha_power j) read)
      | else-i-eq0 w ↦
          HoldMasks-step first eight c.extend_masks.new.masks c.told-first c.extend_masks.ensures c.args.masks.now c.args.i w.if-i-eq0.false (before w.if-i-eq0.false)
          (λ j h. ap (λ ms. block ms j) w.masks-is ∙ w.write_next_masks.ensures j h)
    ]
