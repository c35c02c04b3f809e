use Rattle.std.proofs.Common.{slice_index}
use Rattle.sha256_lanes.proofs.BitLemmas.{maj_short}
use Rattle.sha256_lanes.proofs.functions.maj.Goals as goal

pub returns : goal.returns
returns c = λ j lt.
    rw (c.xor.ensures j lt, c.and-both.ensures j lt, c.xor-one.ensures j lt, c.xor-two.ensures j lt)
    (maj_short (slice_index c.args.x j) (slice_index c.args.y j) (slice_index c.args.z j))
