use Rattle.xts_sector.proofs.TweakLemmas.{times_alpha_is}
use Rattle.xts_sector.proofs.tweak.times_alpha.Goals as goal

pub returns : goal.returns
returns c = times_alpha_is c.args.a c.ranges.a.fits
