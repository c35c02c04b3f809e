use Rattle.std.proofs.Common.{w32, arith, slice_index, Fits}
use Rattle.std.proofs.lemmas.Simd.{Each1-get_or}
use Rattle.sha256_lanes.proofs.BitLemmas.{ch_short}
use Rattle.sha256_lanes.proofs.functions.ch.Goals as goal

pub returns : goal.returns
returns c = λ j lt.
    let x : Fits w32 (slice_index c.args.x j) = Each1-get_or (Fits w32) c.args.x j 0 (omega (arith, c.fits-x.0)) c.fits-x.1 in
    let y : Fits w32 (slice_index c.args.y j) = Each1-get_or (Fits w32) c.args.y j 0 (omega (arith, c.fits-y.0)) c.fits-y.1 in
    let z : Fits w32 (slice_index c.args.z j) = Each1-get_or (Fits w32) c.args.z j 0 (omega (arith, c.fits-z.0)) c.fits-z.1 in
    rw (c.xor.ensures j lt, c.and-taken.ensures j lt, c.xor-differ.ensures j lt)
    (ch_short w32 (slice_index c.args.x j) (slice_index c.args.y j) (slice_index c.args.z j) (omega (arith, x)) (omega (arith, y)) (omega (arith, z)))
