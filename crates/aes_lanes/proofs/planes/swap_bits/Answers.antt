use Rattle.std.proofs.Common.{ℕ, ◌<◌, w8, Fits, slice_index, arith}
use Rattle.std.proofs.lemmas.Simd.{Each1-get_or}
use Rattle.aes_lanes.proofs.ExchangeLemmas.{length-first, length-second, first-at, second-at, first_swapped_lt, second_swapped_lt}
use Rattle.aes_lanes.proofs.planes.swap_bits.Goals as goal

pub returns-clause-vectors : goal.returns-clause-vectors
returns-clause-vectors c =
    let a = c.args.a in
    let b = c.args.b in
    let by = c.args.by in
    let mask = c.args.mask in
    let hm = c.ranges.mask.fits in
    let byte_a : (p : ℕ) → p < 32 → slice_index a p < 256 = λ p h. (Each1-get_or (Fits w8) a p 0 (omega (arith, c.fits-a.0)) c.fits-a.1).fits in
    let byte_b : (p : ℕ) → p < 32 → slice_index b p < 256 = λ p h. (Each1-get_or (Fits w8) b p 0 (omega (arith, c.fits-b.0)) c.fits-b.1).fits in (
      record {
        len = length-first a b by mask c.fits-a.0 c.fits-b.0;
        bytes = λ p h. rw (first-at a b by mask c.fits-a.0 c.fits-b.0 p h) (first_swapped_lt by mask (slice_index a p) (slice_index b p) (byte_a p h));
      },
      record {
        len = length-second a b by mask c.fits-a.0 c.fits-b.0;
        bytes = λ p h. rw (second-at a b by mask c.fits-a.0 c.fits-b.0 p h) (second_swapped_lt by mask (slice_index a p) (slice_index b p) hm (byte_b p h));
      },
    )

pub returns-clause-first : goal.returns-clause-first
returns-clause-first c = first-at c.args.a c.args.b c.args.by c.args.mask c.fits-a.0 c.fits-b.0

pub returns-clause-second : goal.returns-clause-second
returns-clause-second c = second-at c.args.a c.args.b c.args.by c.args.mask c.fits-a.0 c.fits-b.0
