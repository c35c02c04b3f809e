use Rattle.std.proofs.Common.{◌≡◌, ℕ, ◌<◌}
use Rattle.sha2.specs.Sha256.{hash_after, initial_hash_256, padded_message}
use Rattle.sha256_lanes.specs.Lanes.{state_of_lane, message}
use Rattle.sha256_lanes.proofs.hashing.digest_eight.Given as goal

abbrev pub invariant-loop-index : goal.invariant-loop-index
invariant-loop-index l = (j : ℕ) → j < 8 → state_of_lane j l.state ≡ hash_after initial_hash_256 (padded_message (message l.prefix l.blocks l.size j)) l.index
