use Rattle.sha256_lanes.proofs.LaneLemmas.{shifts}
use Rattle.sha256_lanes.proofs.vectors.shift_right.Goals as goal

pub returns : goal.returns
returns c = shifts c.args.k c.requires.1 c.args.x c.fits-x.0
