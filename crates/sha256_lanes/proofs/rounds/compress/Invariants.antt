use Rattle.std.proofs.Common.{◌≡◌, ℕ, ◌<◌, take, drop, ◌*◌, ◌+◌}
use Rattle.sha2.specs.Sha256.{rounds, schedule}
use Rattle.sha256_lanes.specs.Lanes.{AreWords, state_of_lane}
use Rattle.sha256_lanes.proofs.rounds.compress.Given as goal

abbrev pub invariant-schedule : goal.invariant-schedule
invariant-schedule l = (j : ℕ) → j < 8 → AreWords (take 64 (drop (l.at + j * l.stride) l.bytes)) l.t j l.w

abbrev pub invariant-rounds : goal.invariant-rounds
invariant-rounds l = (j : ℕ) → j < 8 → state_of_lane j l.v ≡ rounds (state_of_lane j l.state) (schedule (take 64 (drop (l.at + j * l.stride) l.bytes)) 48) (8 * l.turn)
