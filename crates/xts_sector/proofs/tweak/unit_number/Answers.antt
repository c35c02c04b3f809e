use Rattle.std.proofs.Common.{ap, ◌∙◌, ◌++◌, replicate}
use Rattle.xts_sector.proofs.TweakLemmas.{unit_number_is}
use Rattle.xts_sector.proofs.tweak.unit_number.Goals as goal

pub returns : goal.returns
returns c = ap (λ bytes. bytes ++ replicate 8 0) (c.copy_from_slice.ensures.after ∙ c.to_le_bytes.ensures) ∙ unit_number_is c.args.unit c.ranges.unit.fits
