use Rattle.std.proofs.Common.{◌≡◌, ℕ, ◌<◌, [], length, slice_index_or}
use Rattle.sha2.specs.Sha256.{digest_bytes}
use Rattle.sha256_lanes.specs.Lanes.{state_of_lane}
use Rattle.sha256_lanes.proofs.digests.digests.Given as goal

abbrev pub invariant-loop-j : goal.invariant-loop-j
invariant-loop-j l = (length l.out ≡ 8) × ((j : ℕ) → j < l.j → slice_index_or l.out j [] ≡ digest_bytes (state_of_lane j l.state) 8)
