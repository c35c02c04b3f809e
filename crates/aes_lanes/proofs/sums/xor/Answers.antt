use Rattle.std.proofs.Common.{bit_xor}
use Rattle.aes_lanes.proofs.LaneLemmas.{length-zipped, slice_index-zipped}
use Rattle.aes_lanes.proofs.sums.xor.Goals as goal

pub returns-clause-len : goal.returns-clause-len
returns-clause-len c = length-zipped bit_xor c.args.a c.args.b c.fits-a.0 c.fits-b.0

pub returns-clause-lanes : goal.returns-clause-lanes
returns-clause-lanes c = slice_index-zipped bit_xor c.args.a c.args.b c.fits-a.0 c.fits-b.0
