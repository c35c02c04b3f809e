use Rattle.std.proofs.Common.{◌≡◌, ◌+◌, ◌*◌, ◌/◌, ◌%◌, ◌^◌, ap, ◌∙◌, arith}
use Rattle.std.specs.Simd.Lanes.{digits_l}
use Rattle.xts_sector.proofs.TwoMaskLemmas.{bytes_of_two}
use Rattle.xts_sector.proofs.masks.write_two_tweaks.Goals as goal

pub returns : goal.returns
returns c =
    let a = c.args.first in
    let b = c.args.second in
    let whole : a % 2 ^ 64 + 2 ^ 64 * (a / 2 ^ 64 + 2 ^ 64 * (b % 2 ^ 64 + 2 ^ 64 * (b / 2 ^ 64 + 2 ^ 64 * 0))) ≡ a + 2 ^ 128 * b = omega arith in
    c.write_two_masks.ensures ∙ ap (digits_l 256 32) whole ∙ bytes_of_two a b c.ranges.first.fits
